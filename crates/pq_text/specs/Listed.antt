-- How the members of a list are printed: one after another, parted by a comma and a blank.
use Rattle.std.specs.Prelude.{◌++◌, ℕ, List, [], ◌∷◌, flat_map, codes}

-- the members, parted by a comma and a blank
abbrev pub listed : {X : Type 0} → (X → List ℕ) → List X → List ℕ
listed text [] = []
listed text (x ∷ xs) = text x ++ flat_map (λ y. codes ", " ++ text y) xs
