-- Lists of numbers, and how often a number stands in them.
use Rattle.std.specs.Prelude.{◌≡◌, ℕ, ◌+◌, ◌<◌, ◌≤◌, List, [], ◌∷◌, length, cond, ◌==◌}
use Rattle.std.specs.List.Sorted.{IsStrictlyIncreasing}

-- f of each, added up
abbrev pub total : {X : Type 0} → (X → ℕ) → List X → ℕ
total f [] = 0
total f (x ∷ xs) = f x + total f xs

-- 1 where the number is k
abbrev pub hit : ℕ → ℕ → ℕ
hit k x = cond (x == k) 1 0

-- how often k stands in the list
abbrev pub times : ℕ → List ℕ → ℕ
times k xs = total (hit k) xs

-- The numbers below n stand in the lists, each once in one of them, and no other number stands in one.
-- So the lists have n numbers in all.
abbrev pub EachOnce : List (List ℕ) → ℕ → Type 0
EachOnce lists n = (total length lists ≡ n) × ((k : ℕ) → k < n → total (times k) lists ≡ 1) × ((k : ℕ) → n ≤ k → total (times k) lists ≡ 0)

-- each list ascends strictly
abbrev pub AllAscend : List (List ℕ) → Type 0
AllAscend [] = Unit {0}
AllAscend (l ∷ ls) = IsStrictlyIncreasing l × AllAscend ls
