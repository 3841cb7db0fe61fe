-- What a read says of a file, by what opening it answered.
use Rattle.std.specs.Prelude.{◌≡◌, ◌≢◌, ◌↔◌, Result, Ok, Err}
use Rattle.std.specs.IoError.{error_kind}
use Rattle.std.specs.declared.io.Error.{Error}
use Rattle.std.specs.declared.io.ErrorKind.{ErrorKind}
use Rattle.std.specs.declared.io.ErrorKind.TheVariants.{NotFound, OutOfMemory}
use Rattle.source_trait.specs.declared.files.FileFault.{FileFault}
use Rattle.source_trait.specs.declared.files.FileFault.TheVariants.{Missing, TooLarge, NoMemory}

-- The fault is that of opening a file with an error of this kind: it is missing exactly where there is none of the name, want of memory
-- exactly where memory was wanted, and otherwise a failure.
pub record IsOpenFault (kind : ErrorKind) (fault : FileFault) : Type 0 where
  pub missing : (fault ≡ Missing) ↔ (kind ≡ NotFound)
  pub memory : (fault ≡ NoMemory) ↔ (kind ≡ OutOfMemory)
  pub whole : fault ≢ TooLarge

-- A file that was opened is not missing, and where none was opened the read has the fault of opening it.
abbrev pub IsOfOpening : {File Bytes : Type 0} → Result File Error → Result Bytes FileFault → Type 0
IsOfOpening (Ok file) read = read ≢ Err Missing
IsOfOpening (Err error) read = (fault : FileFault) × (read ≡ Err fault) × IsOpenFault (error_kind error) fault
