-- Sets of exposed facts, as one mark for each base fact.
use Rattle.std.specs.Prelude.{◌≡◌, ℕ, List, [], ◌∷◌, Contains, length, Bool}

-- No element of a list stands twice.
abbrev pub AreDistinct : {X : Type 0} → List X → Type 0
AreDistinct [] = Unit {0}
AreDistinct (x ∷ xs) = (Contains xs x → ⊥) × AreDistinct xs

-- Each set has one mark for each of n facts.
abbrev pub AreSets : ℕ → List (List Bool) → Type 0
AreSets n sets = (set : List Bool) → Contains sets set → length set ≡ n
