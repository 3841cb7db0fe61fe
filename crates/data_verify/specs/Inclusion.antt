-- Inclusion dependencies, which have one body atom and one head atom: each key of the body's facts is one of the head's.
use Rattle.std.specs.Prelude.{◌≡◌, ◌≢◌, ◌↔◌, ℕ, List, Contains, map, length, slice_get, Option, Some, None, Bool, ◌&&◌, ◌==◌}
use Rattle.std.specs.declared.cmp.Ordering.TheVariants.{Less, Greater}
use Rattle.meaning.specs.declared.types.Term.{Term}
use Rattle.meaning.specs.declared.types.Term.TheVariants.{Var, Const}
use Rattle.meaning.specs.declared.types.Atom.{Atom}
use Rattle.meaning.specs.declared.types.Rule.{Rule}
use Rattle.meaning.specs.declared.types.Fact.{Fact}
use Rattle.meaning.specs.Values.{Value, Row}
use Rattle.meaning.specs.Matching.{value_of, itself}
use Rattle.data_verify.specs.declared.key_set.KeySet.{KeySet}
use Rattle.data_verify.specs.Keys.{key_of, row_cmp, Holds}

-- Whether a rule has one body atom and one head atom.
abbrev pub is_inclusion : Rule → Bool
is_inclusion rule = (length rule.body == 1) && (length rule.head == 1)

-- A row fits terms where some assignment gives the terms its values.
abbrev pub Fits : List Term → Row → Type 0
Fits terms row = (a : ℕ → Value) × (map (value_of itself a) terms ≡ row)

-- A fact fits an atom where it has the atom's relation and a row that fits its terms.
pub record FitsAtom (atom : Atom) (fact : Fact) : Type 0 where
  pub rel : fact.rel ≡ atom.rel
  pub row : Fits atom.terms fact.row

-- The value stands at each place of the variable.
abbrev pub StandsAt : ℕ → Value → List Term → Row → Type 0
StandsAt x value terms row =
    (k : ℕ) (other : Value) → slice_get terms k ≡ Some (Var x) → slice_get row k ≡ Some other → other ≡ value

-- A value fits a term before others where it is the constant, or stands at each further place of the variable.
abbrev pub FitsBefore : Term → Value → List Term → Row → Type 0
FitsBefore (Var x) value terms row = StandsAt x value terms row
FitsBefore (Const c) value terms row = c ≡ value

-- The shared variables are exactly those of the body's terms that the head's terms have too.
abbrev pub AreShared : List Term → List Term → List ℕ → Type 0
AreShared body head variables =
    (x : ℕ) → Contains variables x ↔ (Contains head (Var x) × Contains body (Var x))

-- A key is one of the atom's where a fact that fits the atom has it.
abbrev pub IsKey : List Fact → Atom → List ℕ → Row → Type 0
IsKey facts atom variables key =
    (fact : Fact) × Contains facts fact × FitsAtom atom fact × (key_of atom.terms variables fact.row ≡ key)

-- The set holds exactly the keys of the atom.
abbrev pub AreKeys : List Fact → Atom → List ℕ → KeySet → Type 0
AreKeys facts atom variables keys =
    (key : Row) → Holds atom.terms variables keys key ↔ IsKey facts atom variables key

-- A fact is without a key where it fits the body's atom and the set of the head's keys does not hold its key.
pub record IsWithout (body head : Atom) (variables : List ℕ) (keys : KeySet) (fact : Fact) : Type 0 where
  pub fits : FitsAtom body fact
  pub absent : Holds head.terms variables keys (key_of body.terms variables fact.row) → ⊥

-- A fact is the least of some where it is one of them and has no greater row than any other.
pub record IsLeastOf (P : Fact → Type 0) (facts : List Fact) (least : Fact) : Type 0 where
  pub among : Contains facts least
  pub is : P least
  pub lowest : (fact : Fact) → Contains facts fact → P fact → row_cmp least.row fact.row ≢ Greater

-- The least of some facts, and none where there are none.
abbrev pub IsLeastIf : (Fact → Type 0) → List Fact → Option Fact → Type 0
IsLeastIf P facts None = (fact : Fact) → Contains facts fact → P fact → ⊥
IsLeastIf P facts (Some least) = IsLeastOf P facts least

-- A fact's row is below that of the least so far, if there is one.
abbrev pub IsBelow : Fact → Option Fact → Type 0
IsBelow fact None = Unit {0}
IsBelow fact (Some least) = row_cmp fact.row least.row ≡ Less
