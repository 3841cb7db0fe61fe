-- What files hold: names with their bytes.
use Rattle.std.specs.Prelude.{◌≡◌, ℕ, List, [], ◌∷◌, Option, None, Some, if◌then◌else◌, nat_eq}
use Rattle.std.specs.Cmp.Lexicographic.{pointwise}

-- the bytes under a name
abbrev pub bytes_of : List (List ℕ × List ℕ) → List ℕ → Option (List ℕ)
bytes_of [] name = None
bytes_of (f ∷ fs) name = if pointwise nat_eq f.0 name then Some f.1 else bytes_of fs name

-- no two files have one name
abbrev pub NamesDiffer : List (List ℕ × List ℕ) → Type 0
NamesDiffer [] = Unit {0}
NamesDiffer (f ∷ fs) = (bytes_of fs f.0 ≡ None) × NamesDiffer fs
