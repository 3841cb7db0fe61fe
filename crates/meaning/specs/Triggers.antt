-- Firing of rules on labelled facts (Fagin, Kolaitis, Miller and Popa 2005, chase steps).
use Rattle.std.specs.Prelude.{◌≡◌, ℕ, ◌+◌, ◌-◌, ◌<◌, ◌≤◌, max, List, [], ◌∷◌, Contains, map, length, slice_get, slice_index_or, Some, if◌then◌else◌, nat_lt}
use Rattle.meaning.specs.declared.types.Term.{Term}
use Rattle.meaning.specs.declared.types.Atom.{Atom}
use Rattle.meaning.specs.declared.types.Rule.{Rule}
use Rattle.meaning.specs.declared.types.Val.{Val}
use Rattle.meaning.specs.declared.types.Ground.{Ground}
use Rattle.meaning.specs.declared.types.Trigger.{Trigger}
use Rattle.meaning.specs.declared.types.Term.TheVariants.{Var, Const as Said}
use Rattle.meaning.specs.declared.types.Val.TheVariants.{Const, Label}
use Rattle.meaning.specs.Added.{with_facts}
use Rattle.meaning.specs.Matching.{value_of, AreFacts, OccursIn, Extends, GroundsOf}

-- One more than the greatest variable of terms.
abbrev pub terms_bound : List Term → ℕ
terms_bound [] = 0
terms_bound (Var x ∷ terms) = max (x + 1) (terms_bound terms)
terms_bound (Said c ∷ terms) = terms_bound terms

-- One more than the greatest variable of atoms.
abbrev pub bound : List Atom → ℕ
bound [] = 0
bound (atom ∷ atoms) = max (terms_bound atom.terms) (bound atoms)

-- A rule is numbered where its variables have all numbers up to their count, those of the body first.
pub record IsNumbered (rule : Rule) : Type 0 where
  pub body : (x : ℕ) → x < bound rule.body → OccursIn rule.body x
  pub head : (x : ℕ) → x < bound rule.head → bound rule.body ≤ x → OccursIn rule.head x

-- Rules are numbered where each of them is.
abbrev pub AreNumbered : List Rule → Type 0
AreNumbered rules = (rule : Rule) → Contains rules rule → IsNumbered rule

-- A state is labelled facts and the next label.
pub record State : Type 0 where
  pub facts : List Ground
  pub next : ℕ

-- The labels of facts are below the next one.
abbrev pub LabelsBelow : List Ground → ℕ → Type 0
LabelsBelow facts next = (fact : Ground) (k : ℕ) → Contains facts fact → Contains fact.vals (Label k) → k < next

-- f below n, and g from n on.
abbrev pub joined : {V : Type 0} → ℕ → (ℕ → V) → (ℕ → V) → ℕ → V
joined n f g x = if nat_lt x n then f x else g (x - n)

-- The assignment of a trigger gives the body's variables its values, and the existential ones new labels in order.
abbrev pub assigned : Trigger → ℕ → Val
assigned trigger =
    joined (length trigger.values) (λ x. slice_index_or trigger.values x (Label 0)) (λ i. Label (trigger.fresh + i))

-- The labelled fact of an atom under an assignment.
abbrev pub ground : (ℕ → Val) → Atom → Ground
ground a atom = record { rel = atom.rel; vals = map (value_of Const a) atom.terms }

-- A trigger is a rule with values for its body's variables that make the body facts, and with new labels.
pub record IsTrigger (rules : List Rule) (state : State) (trigger : Trigger) (rule : Rule) : Type 0 where
  pub numbered : slice_get rules trigger.rule ≡ Some rule
  pub width : length trigger.values ≡ bound rule.body
  pub fresh : state.next ≤ trigger.fresh
  pub body : AreFacts Const (GroundsOf state.facts) (assigned trigger) rule.body

-- A trigger is active where its labels are the next ones and no assignment that extends it makes the head facts.
pub record IsActive (rules : List Rule) (state : State) (trigger : Trigger) (rule : Rule) : Type 0 where
  pub trigger_is : IsTrigger rules state trigger rule
  pub next : trigger.fresh ≡ state.next
  pub unmet : (b : ℕ → Val) → Extends Const (GroundsOf state.facts) rule (assigned trigger) b → ⊥

-- A state is quiet where no trigger is active.
abbrev pub IsQuiet : List Rule → State → Type 0
IsQuiet rules state = (trigger : Trigger) (rule : Rule) → IsActive rules state trigger rule → ⊥

-- A firing adds the head's facts that are not there yet, and the labels that it gave are used up.
abbrev pub fired : State → Trigger → Rule → State
fired state trigger rule = record {
  facts = with_facts state.facts (map (ground (assigned trigger)) rule.head);
  next = trigger.fresh + (bound rule.head - bound rule.body);
}

-- Firings lead from a state to another where each is one of a trigger there, active or not.
abbrev pub IsFiringRun : List Rule → State → List Trigger → State → Type 0
IsFiringRun rules state [] end = end ≡ state
IsFiringRun rules state (trigger ∷ log) end =
    (rule : Rule) × IsTrigger rules state trigger rule × IsFiringRun rules (fired state trigger rule) log end
