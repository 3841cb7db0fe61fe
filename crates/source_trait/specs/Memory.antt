-- What the files in memory hold.
use Rattle.std.specs.Prelude.{ℕ, List, map}
use Rattle.source_trait.specs.declared.memory_files.NamedFile.{NamedFile}

-- names with their bytes
abbrev pub entries : List NamedFile → List (List ℕ × List ℕ)
entries files = map (λ f. (f.name, f.bytes)) files
