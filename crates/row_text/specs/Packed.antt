-- Lists that hold their members one after another in one list: rows their values, and lists of rows their rows.
use Rattle.std.specs.Prelude.{◌≡◌, ◌≤◌, ◌-◌, ℕ, List, [], ◌∷◌, take, drop, ◌++◌}

-- the parts of a list, by the number of members up to the end of each part, where the first begins at a start
abbrev pub cut_at : {A : Type 0} → ℕ → List ℕ → List A → List (List A)
cut_at start [] members = []
cut_at start (end ∷ ends) members = take (end - start) (drop start members) ∷ cut_at end ends members

-- each part ends where it begins or behind it, and the last one at the end of so many members
abbrev pub AreEnds : ℕ → List ℕ → ℕ → Type 0
AreEnds start [] count = start ≡ count
AreEnds start (end ∷ ends) count = (start ≤ end) × AreEnds end ends count

-- the values of rows, one row after another
abbrev pub values_of : List (List (List ℕ)) → List (List ℕ)
values_of [] = []
values_of (row ∷ rows) = row ++ values_of rows
