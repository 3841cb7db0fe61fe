-- What standard error takes of the line of a stop, and which stop stays.
use Rattle.std.specs.Prelude.{◌≡◌, ◌⊎◌, ℕ, List, Option}
use Rattle.command_io.specs.Writing.{TookAll, TookPrefix, TookPart}
use Rattle.command_io.specs.FaultLines.{Names, fault_line, memory_line}
use Rattle.command_io.specs.declared.stop.Stop.{Stop}
use Rattle.command_io.specs.declared.stop.Stop.TheVariants as stop

-- The whole line, or a first part of it where the sink failed.
abbrev pub TookLine : Option (List ℕ) → Option (List ℕ) → Type 0 → List ℕ → Type 0
TookLine old new rose line = TookAll old new line ⊎ (rose × TookPart old new line)

-- The stop stays, and this line of it was written; or memory was wanted while it was.
abbrev pub Said : Option (List ℕ) → Option (List ℕ) → Type 0 → List ℕ → Stop → Stop → Type 0
Said old new rose line given result = ((result ≡ given) × TookLine old new rose line) ⊎ ((result ≡ stop.Memory) × TookPart old new line)

-- The stop stays, and its line was written; or memory was wanted, and that line was begun and is not whole, or the one of want of
-- memory was begun.
abbrev pub Tells : Option (List ℕ) → Option (List ℕ) → Type 0 → Names → Stop → Stop → Type 0
Tells old new rose names given result =
    ((result ≡ given) × TookLine old new rose (fault_line names given))
    ⊎ ((result ≡ stop.Memory) × (TookPart old new (fault_line names given) ⊎ TookPrefix old new memory_line))

-- A command stopped for a cause: it ends with that stop, whose line was written, or with a lack of memory for the line.
pub record StopsFor (Cause : Stop → Type 0) (names : Names) (old new : Option (List ℕ)) (rose : Type 0) (end : Stop) : Type 0 where
  pub given : Stop
  pub cause : Cause given
  pub tells : Tells old new rose names given end
