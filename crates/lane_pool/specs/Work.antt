-- What workers did of a list of items, each item once.
use Rattle.std.specs.Prelude.{◌≡◌, ℕ, List, [], ◌∷◌, length, Some, slice_get, All}
use Rattle.lane_pool.specs.Numbers.{EachOnce, AllAscend}

module _ {W I A : Type 0} (did : W → I → A → W → Type 0) (items : List I) where
  -- The worker w becomes u by one step for each of these numbers in order, each on the item of that number. The answer of each step stands at the number.
  abbrev pub WorkedBy : List A → List ℕ → W → W → Type 0
  WorkedBy answers [] w u = w ≡ u
  WorkedBy answers (k ∷ ks) w u = (item : I) × (answer : A) × (next : W) × (slice_get items k ≡ Some item) × (slice_get answers k ≡ Some answer) × did w item answer next × WorkedBy answers ks next u

  -- each worker has a list of its own
  abbrev pub AllWorked : List A → List (List ℕ) → List W → List W → Type 0
  AllWorked answers [] [] [] = Unit {0}
  AllWorked answers (l ∷ ls) (w ∷ ws) (u ∷ us) = WorkedBy answers l w u × AllWorked answers ls ws us
  AllWorked answers _ _ _ = ⊥

  -- Each worker has an ascending list of numbers of items, and these lists together have each item's number once. The answers stand in the order of the items.
  pub record FansOut (answers : List A) (ws us : List W) : Type 0 where
    pub len : length answers ≡ length items
    pub lists : List (List ℕ)
    pub ascend : AllAscend lists
    pub once : EachOnce lists (length items)
    pub worked : AllWorked answers lists ws us

-- every worker is ready for every item
abbrev pub AllReady : {W I : Type 0} → (W → I → Type 0) → List I → List W → Type 0
AllReady ready items ws = All (λ w. All (ready w) items) ws
