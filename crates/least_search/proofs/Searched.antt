-- What a search for the least cost has shown so far.
use Rattle.std.specs.Prelude.{◌≡◌, ◌⊎◌, ℕ, ◌+◌, ◌*◌, ◌<◌, ◌≤◌, List, Contains, Bool, true, false, slice_set}
use Rattle.least_search.specs.declared.space.Move.{Move}
use Rattle.least_search.specs.declared.cuts.Cut.{Cut}
use Rattle.least_search.specs.Ways.{Way, IsWay, way_with}
use Rattle.least_search.specs.Walks.{no_facts, with_fact}
use Rattle.least_search.specs.Cuts.{rest, sum_of}
use Rattle.least_search.specs.Costs.{AreRunsWithin}

-- a node that was looked at or waits has the set, and costs at most so much
abbrev pub IsCovered : List Way → List Way → List Bool → ℕ → Type 0
IsCovered looked waiting set cost = (node : Way) × (Contains looked node ⊎ Contains waiting node) × (node.set ≡ set) × (node.cost ≤ cost)

-- what is still to be paid falls along a move by its cost at most, and at a goal nothing is to be paid
pub record IsGuide (CanMove : List Bool → Move → Type 0) (HasGoal : List Bool → Type 0) (cuts : List Cut) : Type 0 where
  pub falls : (set : List Bool) (move : Move) → CanMove set move → rest cuts set ≤ move.cost + rest cuts (with_fact set move)
  pub ends : (end : List Bool) → HasGoal end → rest cuts end ≡ 0

-- each set that was looked at has no goal, and each move by which the search goes on from it, with a sum below the bound, leads to a set that is covered
pub record IsSearched (n : ℕ) (CanMove CanGo : List Bool → Move → Type 0) (HasGoal : List Bool → Type 0) (cuts : List Cut) (bound : ℕ) (long : Bool) (looked waiting : List Way) : Type 0 where
  pub looked_are : (node : Way) → Contains looked node → IsWay n CanMove node
  pub waiting_are : (node : Way) → Contains waiting node → IsWay n CanMove node
  pub order : (first second : Way) → Contains looked first → Contains waiting second → sum_of cuts first ≤ sum_of cuts second
  pub start : rest cuts (no_facts n) < bound → IsCovered looked waiting (no_facts n) 0
  pub none : long ≡ false → (node : Way) → Contains looked node → HasGoal node.set → ⊥
  pub closed : (node : Way) (move : Move) → Contains looked node → CanGo node.set move → sum_of cuts (way_with node move) < bound → IsCovered looked waiting (slice_set node.set move.fact true) (node.cost + move.cost)

-- so many units were spent on sets, in which at most m firings each were made
abbrev pub IsCounted : (List Move → ℕ → Type 0) → ℕ → ℕ → Type 0
IsCounted HasRun sets units = (m n : ℕ) → AreRunsWithin HasRun m n → units ≤ sets * (m + 1)
