-- What a search answers: the least cost of a walk to a goal, and how many units serve for it.
use Rattle.std.specs.Prelude.{◌≡◌, ℕ, ◌+◌, ◌*◌, ◌^◌, ◌<◌, ◌≤◌, List, [], ◌∷◌, Contains, length, map, Bool, Option, Some, None}
use Rattle.meaning.specs.Search.{AreDistinct}
use Rattle.least_search.specs.declared.space.Move.{Move}
use Rattle.least_search.specs.declared.node.Node.{Node}
use Rattle.least_search.specs.declared.cuts.Cut.{Cut}
use Rattle.least_search.specs.Walks.{IsWalk, walk_cost, no_facts}
use Rattle.least_search.specs.Ways.{Way, IsWay}
use Rattle.least_search.specs.Cuts.{sum_of}

-- No walk from the empty set to a set with a goal costs less.
abbrev pub IsLeastCost : ℕ → (List Bool → Move → Type 0) → (List Bool → Type 0) → ℕ → Type 0
IsLeastCost n CanMove HasGoal cost =
    (moves : List Move) (end : List Bool) → IsWalk CanMove (no_facts n) moves end → HasGoal end → cost ≤ walk_cost moves

-- The cost of what was found, or the bound where nothing was.
abbrev pub best_cost : ℕ → Option Node → ℕ
best_cost bound None = bound
best_cost bound (Some node) = node.cost

-- Every run makes at most m firings, along at most n moves.
abbrev pub AreRunsWithin : (List Move → ℕ → Type 0) → ℕ → ℕ → Type 0
AreRunsWithin HasRun m n = (path : List Move) (firings : ℕ) → HasRun path firings → (firings ≤ m) × (length path ≤ n)

-- So many units are spent on the sets of these ways: one on each, and one on each firing of a run along its way.
abbrev pub CanSpend : (List Move → ℕ → Type 0) → List Way → ℕ → Type 0
CanSpend HasRun [] units = units ≡ 0
CanSpend HasRun (way ∷ ways) units = (firings others : ℕ) × HasRun way.path firings ×
    (units ≡ 1 + firings + others) × CanSpend HasRun ways others

-- More units are wanted than there are: they can be spent on different sets, to each of which a walk leads whose cost, with what is
-- still to be paid there, is below the bound.
pub record IsSpent (n : ℕ) (CanMove : List Bool → Move → Type 0) (HasRun : List Move → ℕ → Type 0) (cuts : List Cut)
    (bound search : ℕ) : Type 0 where
  pub ways : List Way
  pub walks : (way : Way) → Contains ways way → IsWay n CanMove way
  pub low : (way : Way) → Contains ways way → sum_of cuts way < bound
  pub distinct : AreDistinct (map (λ (way : Way). way.set) ways)
  pub wanted : CanSpend HasRun ways (search + 1)

-- Every run makes at most m firings, along at most n moves, and so many units serve for all sets of n facts.
pub record IsEnough (HasRun : List Move → ℕ → Type 0) (search m n : ℕ) : Type 0 where
  pub runs : AreRunsWithin HasRun m n
  pub units : (2 ^ n + 1) * (m + 1) ≤ search
