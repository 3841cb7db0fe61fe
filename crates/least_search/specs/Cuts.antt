-- Cuts: sets without a goal, each of which every walk to a goal has to leave (cuts of least cost, as by Wong 1984 for directed Steiner
-- trees, and by Helmert and Domshlak 2009 for plans of actions).
use Rattle.std.specs.Prelude.{◌≡◌, ◌⊎◌, ℕ, ◌+◌, ◌≤◌, List, [], ◌∷◌, Contains, Bool, true, false, ◌&&◌, length, map, slice_index_or, if◌then◌else◌}
use Rattle.least_search.specs.declared.space.Move.{Move}
use Rattle.least_search.specs.declared.cuts.Cut.{Cut}
use Rattle.least_search.specs.Ways.{Way}

-- A move can pay for cuts with so much: where it is possible at a cut's set, it pays the weight; elsewhere it pays nothing.
abbrev pub CanPay : (List Bool → Move → Type 0) → List Cut → Move → ℕ → Type 0
CanPay CanMove [] move left = Unit {0}
CanPay CanMove (cut ∷ cuts) move left =
    ((less : ℕ) × (less + cut.weight ≤ left) × CanPay CanMove cuts move less)
    ⊎ ((CanMove cut.set.items move → ⊥) × CanPay CanMove cuts move left)

-- No cut has a goal, and each move can pay for all of them with its cost.
pub record AreCuts (n : ℕ) (CanMove : List Bool → Move → Type 0) (HasGoal : List Bool → Type 0) (cuts : List Cut) : Type 0 where
  pub sized : (cut : Cut) → Contains cuts cut → length cut.set.items ≡ n
  pub free : (cut : Cut) → Contains cuts cut → HasGoal cut.set.items → ⊥
  pub paid : (move : Move) → CanPay CanMove cuts move move.cost

-- Whether each mark of the first set is one of the second.
abbrev pub is_within : List Bool → List Bool → Bool
is_within [] [] = true
is_within [] (large ∷ larges) = false
is_within (small ∷ smalls) [] = false
is_within (small ∷ smalls) (large ∷ larges) = (if small then large else true) && is_within smalls larges

-- What is still to be paid at a set: the weights of the cuts that hold it.
abbrev pub rest : List Cut → List Bool → ℕ
rest [] set = 0
rest (cut ∷ cuts) set = (if is_within set cut.set.items then cut.weight else 0) + rest cuts set

-- Which of the cuts hold the set.
abbrev pub holding : List Cut → List Bool → List Bool
holding cuts set = map (λ (cut : Cut). is_within set cut.set.items) cuts

-- The weights of those of the marked cuts that hold the fact.
abbrev pub rest_of : List Cut → List Bool → ℕ → ℕ
rest_of [] marks fact = 0
rest_of (cut ∷ cuts) [] fact = 0
rest_of (cut ∷ cuts) (mark ∷ marks) fact =
    (if mark && slice_index_or cut.set.items fact false then cut.weight else 0) + rest_of cuts marks fact

-- The cost of a way and what is still to be paid at its set: no walk that goes on from it to a goal costs less.
abbrev pub sum_of : List Cut → Way → ℕ
sum_of cuts way = way.cost + rest cuts way.set
