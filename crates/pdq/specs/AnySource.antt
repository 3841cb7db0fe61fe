-- A source of the program is seen as the folder or the generator that it is.
use Rattle.source_trait.specs.Asking.{Seen}
use Rattle.pdq.specs.declared.any_source.AnySource.{AnySource}
use Rattle.pdq.specs.declared.any_source.AnySource.TheVariants.{Folder, Generator}

abbrev pub seen_of : {A B : Type 0} → (A → Seen) → (B → Seen) → AnySource A B → Seen
seen_of folder generator (Folder source) = folder source
seen_of folder generator (Generator source) = generator source

-- the source is a folder of data files
abbrev pub IsFolder : {A B : Type 0} → AnySource A B → Type 0
IsFolder (Folder source) = Unit {0}
IsFolder (Generator source) = ⊥
