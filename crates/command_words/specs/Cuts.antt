-- What stands where in the bytes of a text.
use Rattle.std.specs.Prelude.{ℕ, List, [], ◌∷◌, Option, None, Some, if◌then◌else◌, nat_eq}

-- what stands before the first `=`, or all
abbrev pub before_equals : List ℕ → List ℕ
before_equals [] = []
before_equals (b ∷ bs) = if nat_eq b 61 then [] else b ∷ before_equals bs

-- what stands behind the first `=`
abbrev pub behind_equals : List ℕ → Option (List ℕ)
behind_equals [] = None
behind_equals (b ∷ bs) = if nat_eq b 61 then Some bs else behind_equals bs
