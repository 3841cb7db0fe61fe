-- Runs of firings and exposures (Fagin, Kolaitis, Miller and Popa 2005, the chase; Benedikt, Leblay, ten Cate and
-- Tsamoura 2016, accessible schemas: a base fact is exposed by an access, and copy rules speak of exposed facts).
use Rattle.std.specs.Prelude.{◌≡◌, ◌⊎◌, ℕ, ◌≤◌, List, [], ◌∷◌, ◌++◌, Contains, map, slice_get, Some}
use Rattle.meaning.specs.declared.types.Rule.{Rule}
use Rattle.meaning.specs.declared.types.Method.{Method}
use Rattle.meaning.specs.declared.types.SchemaParts.{SchemaParts}
use Rattle.meaning.specs.declared.types.Query.{Query}
use Rattle.meaning.specs.declared.types.Val.{Val}
use Rattle.meaning.specs.declared.types.Ground.{Ground}
use Rattle.meaning.specs.declared.types.Trigger.{Trigger}
use Rattle.meaning.specs.declared.types.Firing.{Firing}
use Rattle.meaning.specs.declared.types.Val.TheVariants.{Const, Label}
use Rattle.meaning.specs.declared.types.Firing.TheVariants.{Base, Copy, Expose}
use Rattle.meaning.specs.Values.{Value}
use Rattle.meaning.specs.Matching.{value_of, IsQueryAnswer, GroundsOf}
use Rattle.meaning.specs.Added.{with_facts}
use Rattle.meaning.specs.Triggers.{State, ground, IsActive, IsQuiet, fired}
use Rattle.meaning.specs.RuleOrder.{StandsBefore}

-- A trigger is the first active one where it is active and no rule that stands before has an active trigger.
pub record IsFirstActive (rules : List Rule) (state : State) (trigger : Trigger) (rule : Rule) : Type 0 where
  pub active : IsActive rules state trigger rule
  pub first : (other : Trigger) (its : Rule) → IsActive rules state other its →
      StandsBefore rules other.rule trigger.rule → ⊥

-- A base run fires first active triggers one after another.
abbrev pub IsBaseRun : List Rule → State → List Trigger → State → Type 0
IsBaseRun rules state [] end = end ≡ state
IsBaseRun rules state (trigger ∷ log) end =
    (rule : Rule) × IsFirstActive rules state trigger rule × IsBaseRun rules (fired state trigger rule) log end

-- A proof is base facts, exposed facts, copy facts and the next label.
pub record Proof : Type 0 where
  pub base : List Ground
  pub exposed : List Ground
  pub copy : List Ground
  pub next : ℕ

-- The state of the base facts.
abbrev pub base_state : Proof → State
base_state proof = record { facts = proof.base; next = proof.next }

-- The state of the copy facts.
abbrev pub copy_state : Proof → State
copy_state proof = record { facts = proof.copy; next = proof.next }

-- A value is known where it is a constant of the list or a value of an exposed fact.
abbrev pub IsKnownValue : List Value → List Ground → Val → Type 0
IsKnownValue constants exposed value =
    ((c : Value) × Contains constants c × (value ≡ Const c))
    ⊎ ((fact : Ground) × Contains exposed fact × Contains fact.vals value)

-- An exposure is active where its fact is a base fact that is not exposed, and its method, by number, is one of the
-- fact's relation with known values at its inputs.
pub record IsActiveExposure (schema : SchemaParts) (constants : List Value) (proof : Proof) (number : ℕ)
    (fact : Ground) (method : Method) : Type 0 where
  pub of_base : Contains proof.base fact
  pub new : Contains proof.exposed fact → ⊥
  pub named : slice_get schema.methods number ≡ Some method
  pub of_relation : method.rel ≡ fact.rel
  pub inputs : (p : ℕ) → Contains method.inputs p →
      (value : Val) × (slice_get fact.vals p ≡ Some value) × IsKnownValue constants proof.exposed value

-- No base trigger is active.
abbrev pub IsBaseQuiet : SchemaParts → Proof → Type 0
IsBaseQuiet schema proof = IsQuiet schema.rules (base_state proof)

-- No copy trigger is active.
abbrev pub IsCopyQuiet : SchemaParts → Proof → Type 0
IsCopyQuiet schema proof = IsQuiet schema.rules (copy_state proof)

-- No exposure is active.
abbrev pub NoExposure : SchemaParts → List Value → Proof → Type 0
NoExposure schema constants proof =
    (number : ℕ) (fact : Ground) (method : Method) → IsActiveExposure schema constants proof number fact method → ⊥

-- A firing leads from a proof to the next: a base firing adds base facts, a copy firing copy facts, and an exposure
-- adds its fact to the exposed and to the copy facts; the latter two come only where no base trigger is active.
abbrev pub Fires : SchemaParts → List Value → Proof → Firing → Proof → Type 0
Fires schema constants proof (Base trigger) next =
    (rule : Rule) × IsFirstActive schema.rules (base_state proof) trigger rule
    × (next ≡ record proof {
      base = (fired (base_state proof) trigger rule).facts;
      next = (fired (base_state proof) trigger rule).next;
    })
Fires schema constants proof (Copy trigger) next =
    (rule : Rule) × IsFirstActive schema.rules (copy_state proof) trigger rule × IsBaseQuiet schema proof
    × (next ≡ record proof {
      copy = (fired (copy_state proof) trigger rule).facts;
      next = (fired (copy_state proof) trigger rule).next;
    })
Fires schema constants proof (Expose number fact) next =
    (method : Method) × IsActiveExposure schema constants proof number fact method × IsBaseQuiet schema proof
    × (next ≡ record proof { exposed = proof.exposed ++ fact ∷ []; copy = proof.copy ++ fact ∷ [] })

-- A run has three parts: base firings, exposures and copy firings.
abbrev pub part_of : Firing → ℕ
part_of (Base trigger) = 0
part_of (Expose number fact) = 1
part_of (Copy trigger) = 2

-- The part that a log has reached, from a part on.
abbrev pub last_part : ℕ → List Firing → ℕ
last_part part [] = part
last_part part (firing ∷ log) = last_part (part_of firing) log

-- A run fires one firing after another, and never goes back to an earlier part.
abbrev pub IsRun : SchemaParts → List Value → ℕ → Proof → List Firing → Proof → Type 0
IsRun schema constants part proof [] end = end ≡ proof
IsRun schema constants part proof (firing ∷ log) end =
    (part ≤ part_of firing)
    × ((next : Proof) × Fires schema constants proof firing next
    × IsRun schema constants (part_of firing) next log end)

-- A run is ordered where a copy firing comes only where no exposure is active.
abbrev pub IsOrderedRun : SchemaParts → List Value → ℕ → Proof → List Firing → Proof → Type 0
IsOrderedRun schema constants part proof [] end = end ≡ proof
IsOrderedRun schema constants part proof (firing ∷ log) end =
    (part ≤ part_of firing) × (part_of firing ≡ 2 → NoExposure schema constants proof)
    × ((next : Proof) × Fires schema constants proof firing next
    × IsOrderedRun schema constants (part_of firing) next log end)

-- The opening proof of a query has its atoms, each once, as base facts, with variable k as label k, and nothing else.
abbrev pub opening : Query → Proof
opening query = record { base = with_facts [] (map (ground Label) query.atoms); exposed = []; copy = []; next = query.variables }

-- The opening state of a query: its frozen atoms, each once.
abbrev pub opening_state : Query → State
opening_state query = record { facts = with_facts [] (map (ground Label) query.atoms); next = query.variables }

-- The frozen head of a query has variable k as label k.
abbrev pub frozen_head : Query → List Val
frozen_head query = map (value_of Const Label) query.head

-- A proof has a goal where the head answers some query on the copy facts.
abbrev pub HasGoal : List Query → Proof → List Val → Type 0
HasGoal queries proof head =
    (query : Query) × Contains queries query × IsQueryAnswer Const (GroundsOf proof.copy) query head

-- A proof is stuck where nothing is active and it has no goal.
pub record IsStuck (schema : SchemaParts) (constants : List Value) (queries : List Query) (proof : Proof)
    (head : List Val) : Type 0 where
  pub base : IsBaseQuiet schema proof
  pub exposures : NoExposure schema constants proof
  pub copy : IsCopyQuiet schema proof
  pub goal : HasGoal queries proof head → ⊥
