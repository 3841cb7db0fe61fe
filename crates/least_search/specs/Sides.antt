-- How cuts are found: a set that walks have to leave, and what is left of the costs of the moves.
use Rattle.std.specs.Prelude.{◌≡◌, ◌⊎◌, ℕ, ◌+◌, ◌<◌, ◌≤◌, List, Contains, Bool, length, slice_index_or, Option, Some, None}
use Rattle.least_search.specs.declared.space.Move.{Move}
use Rattle.least_search.specs.declared.cuts.Cut.{Cut}
use Rattle.least_search.specs.declared.side.Side.{Side}
use Rattle.least_search.specs.declared.residues.Residue.{Residue}
use Rattle.least_search.specs.Walks.{IsWalk, no_facts}
use Rattle.least_search.specs.Cuts.{CanPay}

-- The path is a walk from the empty set of n facts to the set.
abbrev pub IsSide : ℕ → (List Bool → Move → Type 0) → Side → Type 0
IsSide n CanMove side = IsWalk CanMove (no_facts n) side.path.items side.set.items

-- The path is a walk from the empty set of n facts to the set, which has no goal.
pub record IsNearSide (n : ℕ) (CanMove : List Bool → Move → Type 0) (HasGoal : List Bool → Type 0) (side : Side) : Type 0 where
  pub walk : IsSide n CanMove side
  pub free : HasGoal side.set.items → ⊥

-- The weight is at most what is left of each move that is possible at the set.
abbrev pub HaveLeft : (List Bool → Move → Type 0) → List Bool → List Residue → ℕ → Type 0
HaveLeft CanMove set residues weight =
    (residue : Residue) → Contains residues residue → CanMove set residue.step → weight ≤ residue.left

-- The least that is left of a move that is possible at the set, or None where no move is.
abbrev pub LeastOf : (List Bool → Move → Type 0) → List Bool → List Residue → Option ℕ → Type 0
LeastOf CanMove set residues None = (residue : Residue) → Contains residues residue → CanMove set residue.step → ⊥
LeastOf CanMove set residues (Some weight) = HaveLeft CanMove set residues weight

-- A move that is possible at the set has paid the weight, and another move nothing.
pub record HasPaid (CanMove : List Bool → Move → Type 0) (set : List Bool) (weight : ℕ) (before after : Residue) : Type 0 where
  pub step : after.step ≡ before.step
  pub left : (after.left + weight ≡ before.left) ⊎ ((CanMove set before.step → ⊥) × (after.left ≡ before.left))

abbrev pub no_residue : Residue
no_residue = record { step = record { fact = 0; method = 0; cost = 0 }; left = 0 }

-- Each move has paid for leaving the set.
pub record HavePaid (CanMove : List Bool → Move → Type 0) (set : List Bool) (weight : ℕ) (before after : List Residue) : Type 0 where
  pub same : length after ≡ length before
  pub each : (k : ℕ) → k < length before →
      HasPaid CanMove set weight (slice_index_or before k no_residue) (slice_index_or after k no_residue)

-- What a move has paid of its cost is enough for the cuts.
abbrev pub HasPaidFor : (List Bool → Move → Type 0) → List Cut → Residue → Type 0
HasPaidFor CanMove cuts residue = (paid : ℕ) × (paid + residue.left ≤ residue.step.cost) × CanPay CanMove cuts residue.step paid

-- A move with its whole cost.
abbrev pub whole : Move → Residue
whole step = record { step = step; left = step.cost }

-- Each move that is possible at some set is there, and what each has paid of its cost is enough for the cuts.
pub record AreResidues (CanMove : List Bool → Move → Type 0) (cuts : List Cut) (residues : List Residue) : Type 0 where
  pub all : (set : List Bool) (move : Move) → CanMove set move → (residue : Residue) × Contains residues residue × (residue.step ≡ move)
  pub paid : (residue : Residue) → Contains residues residue → HasPaidFor CanMove cuts residue
