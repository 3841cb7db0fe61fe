-- What a part of a run needs, so that it is a run by itself, and which base facts a match can rest on.
use Rattle.std.specs.Prelude.{◌≡◌, ◌⊎◌, ℕ, ◌≤◌, List, Contains, length, map, slice_get, Some}
use Rattle.meaning.specs.declared.types.Val.{Val}
use Rattle.meaning.specs.declared.types.Val.TheVariants.{Const}
use Rattle.meaning.specs.declared.types.Atom.{Atom}
use Rattle.meaning.specs.declared.types.Ground.{Ground}
use Rattle.meaning.specs.declared.types.Method.{Method}
use Rattle.meaning.specs.declared.types.Query.{Query}
use Rattle.meaning.specs.declared.types.Rule.{Rule}
use Rattle.meaning.specs.declared.types.SchemaParts.{SchemaParts}
use Rattle.meaning.specs.declared.types.Trigger.{Trigger}
use Rattle.meaning.specs.Matching.{value_of}
use Rattle.meaning.specs.Triggers.{bound, ground, assigned, State, IsFiringRun}
use Rattle.meaning.specs.Runs.{IsKnownValue}
use Rattle.meaning.specs.Extract.{Exposure, IsExposing}

-- Each fact of the one list is in the other.
abbrev pub AreIn : List Ground → List Ground → Type 0
AreIn facts larger = (fact : Ground) → Contains facts fact → Contains larger fact

-- From each state with the needed facts the kept firings are a run that leaves the wanted facts.
abbrev pub Serves : List Rule → ℕ → List Ground → List Trigger → List Ground → Type 0
Serves rules next needed kept wanted =
    (small : State) → small.next ≤ next → AreIn needed small.facts →
    (last : State) × IsFiringRun rules small kept last × AreIn wanted last.facts

-- After any of the facts before, from which the needed values are known, the kept exposures are in order.
abbrev pub ServesExposing : SchemaParts → List (List ℕ) → List Ground → List Ground → List Val → List Exposure → Type 0
ServesExposing schema constants base before values kept =
    (exposed : List Ground) → AreIn exposed before →
    ((v : Val) → Contains values v → IsKnownValue constants exposed v) → IsExposing schema constants base exposed kept

-- The fact asks for the value: it has it at an input of a method of its relation, and it is no constant of the list.
pub record Asks (schema : SchemaParts) (constants : List (List ℕ)) (fact : Ground) (v : Val) : Type 0 where
  pub method : Method
  pub place : ℕ
  pub of_schema : Contains schema.methods method
  pub of_relation : method.rel ≡ fact.rel
  pub input : Contains method.inputs place
  pub at : slice_get fact.vals place ≡ Some v
  pub unknown : (c : List ℕ) → Contains constants c → v ≡ Const c → ⊥

-- The fact is one that a match makes of the query's atom, if the query's head has these values.
pub record IsImage (query : Query) (head : List Val) (atom : Atom) (fact : Ground) : Type 0 where
  pub assignment : ℕ → Val
  pub heads : head ≡ map (value_of Const assignment) query.head
  pub makes : ground assignment atom ≡ fact

-- The fact is one that a match makes of an atom, or of a wanted relation.
abbrev pub IsNeeded : List Query → List Val → List ℕ → Ground → Type 0
IsNeeded queries head wanted fact =
    ((query : Query) × (atom : Atom) × Contains queries query × Contains query.atoms atom × IsImage query head atom fact)
    ⊎ Contains wanted fact.rel

-- A firing of the rule with new labels, by the values for its body's variables.
pub record IsFiringOf (rules : List Rule) (next : ℕ) (trigger : Trigger) (rule : Rule) : Type 0 where
  pub numbered : slice_get rules trigger.rule ≡ Some rule
  pub width : length trigger.values ≡ bound rule.body
  pub fresh : next ≤ trigger.fresh

-- Where a fact that a firing makes is needed, the facts of its body are.
abbrev pub BodiesFollow : List Rule → ℕ → (Ground → Type 0) → Type 0
BodiesFollow rules next Needed =
    (trigger : Trigger) (rule : Rule) (head body : Atom) → IsFiringOf rules next trigger rule →
    Contains rule.head head → Contains rule.body body →
    Needed (ground (assigned trigger) head) → Needed (ground (assigned trigger) body)

-- What a match makes of the queries' atoms is needed, and the body of a firing that makes a needed fact; the base facts that are
-- needed are relevant, and those that have a value for which a relevant fact asks.
pub record AreClosed (schema : SchemaParts) (constants : List (List ℕ)) (base : List Ground) (next : ℕ) (queries : List Query)
    (head : List Val) (Needed Relevant : Ground → Type 0) : Type 0 where
  pub images : (query : Query) (atom : Atom) (fact : Ground) → Contains queries query → Contains query.atoms atom →
      IsImage query head atom fact → Needed fact
  pub bodies : BodiesFollow schema.rules next Needed
  pub facts : (fact : Ground) → Contains base fact → Needed fact → Relevant fact
  pub inputs : (fact other : Ground) (v : Val) → Relevant fact → Asks schema constants fact v →
      Contains base other → Contains other.vals v → Relevant other
