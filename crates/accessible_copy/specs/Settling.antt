-- What firing the rules of one kind changes.
use Rattle.std.specs.Prelude.{◌≡◌, List, ◌++◌, map, Bool, true, false}
use Rattle.meaning.specs.declared.types.SchemaParts.{SchemaParts}
use Rattle.meaning.specs.declared.types.Trigger.{Trigger}
use Rattle.meaning.specs.Triggers.{State}
use Rattle.meaning.specs.Runs.{Proof, base_state, copy_state, IsOrderedRun, NoExposure}
use Rattle.accessible_copy.specs.Written.{firing_of}
use Rattle.accessible_copy.specs.Proving.{Proving, log_of}

-- The state whose rules are fired.
abbrev pub kind_state : Bool → Proof → State
kind_state true proof = copy_state proof
kind_state false proof = base_state proof

-- The base facts stay where copy rules are fired, and the copy facts where base rules are.
abbrev pub Stays : Bool → Proof → Proof → Type 0
Stays true old new = new.base ≡ old.base
Stays false old new = new.copy ≡ old.copy

-- A copy firing keeps the order of a run only where no exposure is active.
abbrev pub CanFollow : Bool → SchemaParts → Proving → Type 0
CanFollow true schema proof = NoExposure schema proof.constants proof.end
CanFollow false schema proof = Unit {0}

-- The firings of a kind alone were added.
pub record Settles (schema : SchemaParts) (copies : Bool) (old new : Proving) : Type 0 where
  pub more : List Trigger
  pub log : log_of new ≡ log_of old ++ map (firing_of copies) more
  pub constants : new.constants ≡ old.constants
  pub start : new.start ≡ old.start
  pub exposed : new.exposed ≡ old.exposed
  pub stays : Stays copies old.end new.end
  pub ordered : CanFollow copies schema old → IsOrderedRun schema old.constants 0 old.start (log_of old) old.end →
      IsOrderedRun schema old.constants 0 old.start (log_of new) new.end
