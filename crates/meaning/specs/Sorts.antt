-- Sorts of columns: which columns hold integers, and what stands there.
use Rattle.std.specs.Prelude.{◌≡◌, ◌++◌, ℕ, List, Some, Contains, slice_get}
use Rattle.meaning.specs.declared.types.Atom.{Atom}
use Rattle.meaning.specs.declared.types.Rule.{Rule}
use Rattle.meaning.specs.declared.types.Relation.{Relation}
use Rattle.meaning.specs.declared.types.SchemaParts.{SchemaParts}
use Rattle.meaning.specs.declared.types.Sort.TheVariants.{Int}
use Rattle.meaning.specs.declared.types.Term.TheVariants.{Var, Const as Said}
use Rattle.meaning.specs.Values.{Value}
use Rattle.meaning.specs.Integers.{IsInteger}

-- The column of the relation at the place holds integers.
abbrev pub HoldsIntegers : SchemaParts → ℕ → ℕ → Type 0
HoldsIntegers schema rel place =
    (relation : Relation) × (slice_get schema.relations rel ≡ Some relation) × (slice_get relation.sorts place ≡ Some Int)

-- A value among the members, which `known` reads as one of them, is an integer where it stands at an integer column.
abbrev pub AreSorted : {V : Type 0} → (Value → V) → SchemaParts → ℕ → List V → Type 0
AreSorted known schema rel members =
    (place : ℕ) (c : Value) → HoldsIntegers schema rel place → slice_get members place ≡ Some (known c) → IsInteger c

-- Atoms are sorted where each constant at an integer column is an integer.
abbrev pub AtomsAreSorted : SchemaParts → List Atom → Type 0
AtomsAreSorted schema atoms = (atom : Atom) → Contains atoms atom → AreSorted Said schema atom.rel atom.terms

-- A rule is sorted where its atoms are, and a variable at an integer column stands at no other.
pub record RuleIsSorted (schema : SchemaParts) (rule : Rule) : Type 0 where
  pub constants : AtomsAreSorted schema (rule.body ++ rule.head)
  pub variables : (x p q : ℕ) (one other : Atom) → Contains (rule.body ++ rule.head) one → Contains (rule.body ++ rule.head) other →
      slice_get one.terms p ≡ Some (Var x) → slice_get other.terms q ≡ Some (Var x) → HoldsIntegers schema one.rel p → HoldsIntegers schema other.rel q
