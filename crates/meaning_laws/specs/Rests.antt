-- Quiet states over facts, and goals that each of them has.
use Rattle.std.specs.Prelude.{ℕ, ◌-◌, ◌≤◌, max, List, [], ◌∷◌, Contains}
use Rattle.meaning.specs.declared.types.Atom.{Atom}
use Rattle.meaning.specs.declared.types.Ground.{Ground}
use Rattle.meaning.specs.declared.types.Query.{Query}
use Rattle.meaning.specs.declared.types.Rule.{Rule}
use Rattle.meaning.specs.declared.types.SchemaParts.{SchemaParts}
use Rattle.meaning.specs.declared.types.Trigger.{Trigger}
use Rattle.meaning.specs.declared.types.Val.{Val}
use Rattle.meaning.specs.declared.types.Val.TheVariants.{Const}
use Rattle.meaning.specs.Values.{Value}
use Rattle.meaning.specs.Matching.{AreFacts, Extends, GroundsOf, IsQueryAnswer}
use Rattle.meaning.specs.Triggers.{bound, ground, assigned, State, IsQuiet}
use Rattle.meaning.specs.Naming.{AreNamed}
use Rattle.meaning.specs.Fitting.{Fit}
use Rattle.meaning_laws.specs.Trims.{AreIn, IsFiringOf}

-- A state is at rest over facts where it has them, its next label is from `next` to `most`, its facts have names and arities, and no
-- trigger is active in it, whatever made it.
pub record IsRest (schema : SchemaParts) (constants : List Value) (next most : ℕ) (facts : List Ground) (end : State) : Type 0 where
  pub grows : AreIn facts end.facts
  pub low : next ≤ end.next
  pub few : end.next ≤ most
  pub named : AreNamed constants end.next end.facts
  pub fits : Fit schema end.facts
  pub quiet : IsQuiet schema.rules end

-- Facts have a goal where the head answers one of the queries on every state at rest over them.
abbrev pub HasGoalOver : SchemaParts → List Value → List Query → List Val → ℕ → ℕ → List Ground → Type 0
HasGoalOver schema constants queries head next most facts =
    (end : State) → IsRest schema constants next most facts end →
    (goal : Query) × Contains queries goal × IsQueryAnswer Const (GroundsOf end.facts) goal head

-- The most labels that a firing of one of the rules gives.
abbrev pub new_labels : List Rule → ℕ
new_labels [] = 0
new_labels (rule ∷ rules) = max (bound rule.head - bound rule.body) (new_labels rules)

-- Where a firing that makes a needed fact has its body among the facts, some extension has its head there already.
abbrev pub MakersAreMet : List Rule → ℕ → (Ground → Type 0) → List Ground → Type 0
MakersAreMet rules next Needed facts =
    (trigger : Trigger) (rule : Rule) (head : Atom) → IsFiringOf rules next trigger rule → Contains rule.head head →
    Needed (ground (assigned trigger) head) → AreFacts Const (GroundsOf facts) (assigned trigger) rule.body →
    (b : ℕ → Val) × Extends Const (GroundsOf facts) rule (assigned trigger) b
