-- The terms of a select's columns, joined by one condition after the other.
use Rattle.std.specs.Prelude.{◌≤◌, ℕ, ◌+◌, ◌*◌, List, [], ◌∷◌, Contains, map, length, slice_get, Option, Some, None, nat_eq, if◌then◌else◌}
use Rattle.std.specs.List.{range_with_len}
use Rattle.std.specs.Cmp.Lexicographic.{pointwise}
use Rattle.meaning.specs.declared.types.Term.{Term}
use Rattle.meaning.specs.declared.types.Term.TheVariants.{Var, Const}
use Rattle.meaning.specs.declared.types.Atom.{Atom}
use Rattle.meaning.specs.declared.types.Relation.{Relation}
use Rattle.meaning.specs.declared.types.Condition.{Condition}
use Rattle.meaning.specs.Conjunctive.{term_of}

-- No relation has more than 64 columns.
abbrev pub AreNarrow : List Relation → Type 0
AreNarrow relations = (relation : Relation) → Contains relations relation → length relation.columns ≤ 64

-- The number of columns of a relation.
abbrev pub width_in : Option Relation → ℕ
width_in None = 0
width_in (Some relation) = length relation.columns

-- The number of columns of the relation with that number.
abbrev pub width_of : List Relation → ℕ → ℕ
width_of relations rel = width_in (slice_get relations rel)

-- The atom of a FROM item, with a variable of its own for each column.
abbrev pub opened : List Relation → ℕ → ℕ → Atom
opened relations from rel = record { rel = rel; terms = map (λ c. Var (from * 64 + c)) (range_with_len 0 (width_of relations rel)) }

-- One atom for each FROM item.
abbrev pub opening_from : List Relation → ℕ → List ℕ → List Atom
opening_from relations from [] = []
opening_from relations from (rel ∷ froms) = opened relations from rel ∷ opening_from relations (from + 1) froms

-- A term with another one in place of a variable.
abbrev pub replaced : ℕ → Term → Term → Term
replaced variable to (Var k) = if nat_eq k variable then to else Var k
replaced variable to (Const text) = Const text

-- An atom with each of its terms changed.
abbrev pub with_terms : (Term → Term) → Atom → Atom
with_terms f atom = record { rel = atom.rel; terms = map f atom.terms }

-- The atoms once two terms are one; different constants are never one.
abbrev pub met : List Atom → Term → Term → Option (List Atom)
met atoms (Var k) right = Some (map (with_terms (replaced k right)) atoms)
met atoms (Const a) (Var k) = Some (map (with_terms (replaced k (Const a))) atoms)
met atoms (Const a) (Const b) = if pointwise nat_eq a b then Some atoms else None

-- What follows where there are atoms.
abbrev pub met_on : Option (List Atom) → (List Atom → Option (List Atom)) → Option (List Atom)
met_on None next = None
met_on (Some atoms) next = next atoms

-- The atoms once the two sides of each condition are one term.
abbrev pub met_all : List Atom → List Condition → Option (List Atom)
met_all atoms [] = Some atoms
met_all atoms (condition ∷ conditions) = met_on (met atoms (term_of atoms condition.left) (term_of atoms condition.right)) (λ new. met_all new conditions)
