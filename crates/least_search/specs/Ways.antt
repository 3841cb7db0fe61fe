-- Ways to sets of facts.
use Rattle.std.specs.Prelude.{◌≡◌, ℕ, ◌+◌, List, [], ◌∷◌, ◌++◌, Bool}
use Rattle.least_search.specs.declared.space.Move.{Move}
use Rattle.least_search.specs.Walks.{IsWalk, walk_cost, no_facts, with_fact}

-- A path of moves from the empty set, the set that it leads to, and its cost.
pub record Way : Type 0 where
  pub path : List Move
  pub set : List Bool
  pub cost : ℕ

-- The path is a walk from the empty set of n facts to the set, at the cost.
pub record IsWay (n : ℕ) (CanMove : List Bool → Move → Type 0) (way : Way) : Type 0 where
  pub walk : IsWalk CanMove (no_facts n) way.path way.set
  pub cost : way.cost ≡ walk_cost way.path

-- The set that moves lead to from a set.
abbrev pub set_after : List Bool → List Move → List Bool
set_after set [] = set
set_after set (move ∷ moves) = set_after (with_fact set move) moves

-- The way along a path from the empty set of n facts.
abbrev pub way_along : ℕ → List Move → Way
way_along n path = record { path = path; set = set_after (no_facts n) path; cost = walk_cost path }

-- The way with one more move.
abbrev pub way_with : Way → Move → Way
way_with way move = record { path = way.path ++ move ∷ []; set = with_fact way.set move; cost = way.cost + move.cost }
