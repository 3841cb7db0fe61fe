-- What reading a data file answers.
use Rattle.std.specs.Prelude.{◌≡◌, ℕ, length, List, Option, IfSome, Result, Ok, Err}
use Rattle.source_trait.specs.Asking.{RowList, AttachCause, ColumnBelow, HaveArity}
use Rattle.source_trait.specs.declared.source.AttachFault.{AttachFault}
use Rattle.csv_sources.specs.declared.folder.Loaded.{Loaded}

-- rows of the arity are those that are offered, and a fault has its cause, as an attach must answer them
abbrev pub LoadGives : Option (Result RowList AttachFault) → Option (List ℕ) → ℕ → Type 0 → Result Loaded AttachFault → Type 0
LoadGives offer told arity rose (Ok loaded) = HaveArity arity loaded.rows × IfSome offer (λ o. o ≡ Ok loaded.rows) × IfSome told (λ bytes. loaded.size ≡ length bytes)
LoadGives offer told arity rose (Err fault) = AttachCause fault offer rose × ColumnBelow fault arity
