-- Each fault of the file has its cause.
use Rattle.std.proofs.Common.{◌≡◌, ℕ, List, Option, refl, ap, Err}
use Rattle.std.specs.Prelude.{◌≢◌}
use Rattle.source_trait.specs.declared.files.FileFault.{FileFault}
use Rattle.source_trait.specs.declared.files.FileFault.TheVariants as file
use Rattle.command_io.specs.Inputs.{Contents, FileCause}
use Rattle.command_io.specs.Inputs.FileStop.{no_memory, not_read}
use Rattle.command_io.proofs.inputs.read_file.Goals as goal

pub returns-in-NoMemory-clause-cause : goal.returns-in-NoMemory-clause-cause
returns-in-NoMemory-clause-cause g c = no_memory

has_cause : (told : Option Contents) (name : List ℕ) (limit : ℕ) (rose : Type 0) (fault : FileFault) → fault ≢ file.NoMemory
    → (fault ≡ file.Missing → FileCause file.Missing told name limit rose) → (fault ≡ file.TooLarge → FileCause file.TooLarge told name limit rose)
    → (fault ≡ file.Failed → FileCause file.Failed told name limit rose) → FileCause fault told name limit rose
has_cause told name limit rose file.Missing other missing large failed = missing refl
has_cause told name limit rose file.TooLarge other missing large failed = large refl
has_cause told name limit rose file.Failed other missing large failed = failed refl
has_cause told name limit rose file.NoMemory other missing large failed = absurd (other refl)

pub returns-in_default-clause-cause : goal.returns-in_default-clause-cause
returns-in_default-clause-cause g c = not_read c.in-Err.fault (has_cause _ _ _ _ c.in-Err.fault c.in_default.not-NoMemory
    (λ is. c.in-Err.ensures.missing (ap Err is)) (λ is. c.in-Err.ensures.too_large (ap Err is)) (λ is. c.in-Err.ensures.failed (ap Err is)))
