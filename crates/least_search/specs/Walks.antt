-- Sets of numbered facts, as one mark for each fact, and walks of moves that add a fact each (a search through a graph of
-- states by operators, Hart, Nilsson and Raphael 1968).
use Rattle.std.specs.Prelude.{◌≡◌, ℕ, zero, suc, ◌+◌, List, [], ◌∷◌, Bool, true, false, slice_set, slice_get, Some}
use Rattle.least_search.specs.declared.space.Move.{Move}
use Rattle.least_search.specs.declared.node.Node.{Node}

-- The set without facts.
abbrev pub no_facts : ℕ → List Bool
no_facts zero = []
no_facts (suc n) = false ∷ no_facts n

-- The set with one more fact.
abbrev pub with_fact : List Bool → Move → List Bool
with_fact set move = slice_set set move.fact true

-- A walk makes one move after another, each possible at the set that those before it lead to.
abbrev pub IsWalk : (List Bool → Move → Type 0) → List Bool → List Move → List Bool → Type 0
IsWalk CanMove set [] end = end ≡ set
IsWalk CanMove set (move ∷ moves) end = CanMove set move × IsWalk CanMove (with_fact set move) moves end

-- The move is possible at the set, and gains something there.
abbrev pub CanGain : (List Bool → Move → Type 0) → (List Bool → Move → Type 0) → List Bool → Move → Type 0
CanGain CanMove Gains set move = CanMove set move × Gains set move

-- The cost of a walk is the sum of the costs of its moves.
abbrev pub walk_cost : List Move → ℕ
walk_cost [] = 0
walk_cost (move ∷ moves) = move.cost + walk_cost moves

-- A node has a walk from the empty set of n facts to its set, at its cost.
pub record IsNode (n : ℕ) (CanMove : List Bool → Move → Type 0) (node : Node) : Type 0 where
  pub walk : IsWalk CanMove (no_facts n) node.path.items node.set.items
  pub cost : node.cost ≡ walk_cost node.path.items

-- Each mark of the first set is one of the second, and both have as many facts.
abbrev pub IsSubset : List Bool → List Bool → Type 0
IsSubset [] [] = Unit {0}
IsSubset [] (large ∷ larges) = ⊥
IsSubset (small ∷ smalls) [] = ⊥
IsSubset (small ∷ smalls) (large ∷ larges) = (small ≡ true → large ≡ true) × IsSubset smalls larges

-- A set that holds one with a goal has a goal.
abbrev pub GoalsGrow : (List Bool → Type 0) → Type 0
GoalsGrow HasGoal = (set larger : List Bool) → HasGoal set → IsSubset set larger → HasGoal larger

-- A move adds a fact that is not in the set, and is possible at each larger set without that fact; and along each walk from
-- the empty set there is a run that makes no firing.
pub record IsSpace (n : ℕ) (CanMove : List Bool → Move → Type 0) (HasRun : List Move → ℕ → Type 0) : Type 0 where
  pub new : (set : List Bool) (move : Move) → CanMove set move → slice_get set move.fact ≡ Some false
  pub grows : (set larger : List Bool) (move : Move) → CanMove set move → IsSubset set larger →
      slice_get larger move.fact ≡ Some false → CanMove larger move
  pub runs : (moves : List Move) (end : List Bool) → IsWalk CanMove (no_facts n) moves end → HasRun moves 0
