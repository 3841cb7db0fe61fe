-- Answers, put at the places of their numbers.
use Rattle.std.specs.Prelude.{ℕ, List, [], ◌∷◌, ◌++◌, slice_set, Option, Some}

module _ {A : Type 0} where
  -- the sheets, one after another
  abbrev pub flat : List (List (ℕ × A)) → List (ℕ × A)
  flat [] = []
  flat (r ∷ rs) = r ++ flat rs

  -- each answer at the place of its number, the last first
  abbrev pub put_at : List (Option A) → List (ℕ × A) → List (Option A)
  put_at places [] = places
  put_at places (d ∷ ds) = slice_set (put_at places ds) d.0 (Some d.1)
