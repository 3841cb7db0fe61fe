-- Conjunctive queries under assignments (Chandra and Merlin 1977), and rules (Fagin, Kolaitis, Miller and Popa 2005).
-- The definitions serve texts and labelled values alike: `known` reads a constant as a value, and `IsFact` says which
-- facts there are.
use Rattle.std.specs.Prelude.{◌≡◌, ℕ, List, Contains, map}
use Rattle.meaning.specs.declared.types.Term.{Term}
use Rattle.meaning.specs.declared.types.Atom.{Atom}
use Rattle.meaning.specs.declared.types.Rule.{Rule}
use Rattle.meaning.specs.declared.types.SchemaParts.{SchemaParts}
use Rattle.meaning.specs.declared.types.Fact.{Fact}
use Rattle.meaning.specs.declared.types.Query.{Query}
use Rattle.meaning.specs.declared.types.Val.{Val}
use Rattle.meaning.specs.declared.types.Ground.{Ground}
use Rattle.meaning.specs.declared.types.Term.TheVariants.{Var, Const}
use Rattle.meaning.specs.Values.{Value, Row}

-- The value of a variable is the assignment's, and the value of a constant is the constant.
abbrev pub value_of : {V : Type 0} → (Value → V) → (ℕ → V) → Term → V
value_of known a (Var x) = a x
value_of known a (Const c) = known c

-- An assignment makes atoms facts where each atom, with its terms replaced by their values, is a fact.
abbrev pub AreFacts : {V : Type 0} → (Value → V) → (ℕ → List V → Type 0) → (ℕ → V) → List Atom → Type 0
AreFacts known IsFact a atoms =
    (atom : Atom) → Contains atoms atom → IsFact atom.rel (map (value_of known a) atom.terms)

-- A variable occurs in atoms where it is a term of one of them.
abbrev pub OccursIn : List Atom → ℕ → Type 0
OccursIn atoms x = (atom : Atom) × Contains atoms atom × Contains atom.terms (Var x)

-- A row answers a query where some assignment makes the atoms facts and the row is the values of the head.
abbrev pub IsQueryAnswer : {V : Type 0} → (Value → V) → (ℕ → List V → Type 0) → Query → List V → Type 0
IsQueryAnswer {V} known IsFact query row =
    (a : ℕ → V) × AreFacts known IsFact a query.atoms × (row ≡ map (value_of known a) query.head)

-- An assignment extends another for a rule where they agree on the body's variables and it makes the head facts.
pub record Extends {V : Type 0} (known : Value → V) (IsFact : ℕ → List V → Type 0) (rule : Rule)
    (a b : ℕ → V) : Type 0 where
  pub agrees : (x : ℕ) → OccursIn rule.body x → b x ≡ a x
  pub head : AreFacts known IsFact b rule.head

-- A rule is met where each assignment that makes its body facts has one that extends it.
abbrev pub MeetsRule : {V : Type 0} → (Value → V) → (ℕ → List V → Type 0) → Rule → Type 0
MeetsRule {V} known IsFact rule =
    (a : ℕ → V) → AreFacts known IsFact a rule.body → (b : ℕ → V) × Extends known IsFact rule a b

-- Rules are met where each of them is.
abbrev pub MeetsAll : {V : Type 0} → (Value → V) → (ℕ → List V → Type 0) → List Rule → Type 0
MeetsAll known IsFact rules = (rule : Rule) → Contains rules rule → MeetsRule known IsFact rule

-- Among texts a constant is itself.
abbrev pub itself : Value → Value
itself c = c

-- The facts of an instance.
abbrev pub FactsOf : List Fact → ℕ → Row → Type 0
FactsOf instance rel row = Contains instance (record { rel = rel; row = row })

-- The facts of a labelled state.
abbrev pub GroundsOf : List Ground → ℕ → List Val → Type 0
GroundsOf facts rel vals = Contains facts (record { rel = rel; vals = vals })

-- An instance meets a schema where it meets each of the schema's rules.
abbrev pub Meets : List Fact → SchemaParts → Type 0
Meets instance schema = MeetsAll itself (FactsOf instance) schema.rules

-- A row answers a query on an instance.
abbrev pub AnswersQuery : Query → List Fact → Row → Type 0
AnswersQuery query instance row = IsQueryAnswer itself (FactsOf instance) query row
