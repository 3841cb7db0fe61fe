-- Variables with their places in a list as their numbers.
use Rattle.std.specs.Prelude.{ℕ, ◌+◌, List, [], ◌∷◌, ◌++◌, length, nat_eq, if◌then◌else◌}
use Rattle.meaning.specs.declared.types.Term.{Term}
use Rattle.meaning.specs.declared.types.Term.TheVariants.{Var, Const}
use Rattle.meaning.specs.declared.types.Atom.{Atom}

-- The place of a variable in a list, counted from a number on, and the end of the list where it is not there.
abbrev pub place_from : ℕ → List ℕ → ℕ → ℕ
place_from n [] k = n
place_from n (x ∷ xs) k = if nat_eq x k then n else place_from (n + 1) xs k

-- The variables seen and one more, once.
abbrev pub seen_with : List ℕ → ℕ → List ℕ
seen_with seen k = if nat_eq (place_from 0 seen k) (length seen) then seen ++ k ∷ [] else seen

-- The variables seen before and those of the terms, in the order of their first occurrence.
abbrev pub order_in : List ℕ → List Term → List ℕ
order_in seen [] = seen
order_in seen (Var k ∷ terms) = order_in (seen_with seen k) terms
order_in seen (Const text ∷ terms) = order_in seen terms

-- The variables seen before and those of the atoms.
abbrev pub order_through : List ℕ → List Atom → List ℕ
order_through seen [] = seen
order_through seen (atom ∷ atoms) = order_through (order_in seen atom.terms) atoms

-- The term with the place of its variable in the order.
abbrev pub number_in : List ℕ → Term → Term
number_in order (Var k) = Var (place_from 0 order k)
number_in order (Const text) = Const text
