-- What digits stand for.
use Rattle.std.specs.Prelude.{◌+◌, ◌-◌, ◌*◌, ℕ, Bool, true, false, not, List, [], ◌∷◌, nat_eq}

-- the number of the digits behind those that are done
abbrev pub value_from : ℕ → List ℕ → ℕ
value_from n [] = n
value_from n (d ∷ ds) = value_from (n * 10 + (d - 48)) ds

-- There is a first byte, and it is no zero but the only byte.
abbrev pub begins_plain : List ℕ → Bool
begins_plain [] = false
begins_plain (b ∷ []) = true
begins_plain (b ∷ c ∷ bs) = not (nat_eq b 48)
