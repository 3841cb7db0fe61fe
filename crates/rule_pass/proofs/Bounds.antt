-- How far the variables of atoms and the labels of facts go.
use Rattle.std.proofs.Common.{ℕ, ◌≤◌, List, [], ◌∷◌, ◌++◌, map, refl, ⊎_elim, arith}
use Rattle.meaning.specs.declared.types.Atom.{Atom}
use Rattle.meaning.specs.declared.types.Ground.{Ground}
use Rattle.meaning.specs.declared.types.Rule.{Rule}
use Rattle.meaning.specs.declared.types.Trigger.{Trigger}
use Rattle.meaning.specs.Added.{with_facts}
use Rattle.meaning.specs.Triggers.{State, LabelsBelow, AreNumbered, IsTrigger, assigned, ground, bound, fired}
use Rattle.meaning_laws.proofs.Added.{added_cases, added_right}
use Rattle.meaning_laws.proofs.Carrying.{run_below}
use Rattle.access_schema.specs.declared.schema.Schema.{Schema}
use Rattle.access_schema.proofs.Ordered.{bound_is}
use Rattle.access_schema.proofs.Keeping.{rules_fit}
use Rattle.rule_pass.specs.Orderly.{AreOrderly}

-- labels of facts to which others are added
pub below_added : (facts news : List Ground) (old next : ℕ) → LabelsBelow facts old → old ≤ next → LabelsBelow news next → LabelsBelow (with_facts facts news) next
below_added facts news old next below later new fact k among has =
    ⊎_elim (λ h. let l = below fact k h has in omega arith) (λ h. new fact k h has) (added_cases facts news fact among)

pub made_below : (rules : List Rule) (state : State) (trigger : Trigger) (rule : Rule) → AreNumbered rules → IsTrigger rules state trigger rule → LabelsBelow state.facts state.next
    → LabelsBelow (map (ground (assigned trigger)) rule.head) (fired state trigger rule).next
made_below rules state trigger rule numbered is below fact k among has =
    (run_below rules (trigger ∷ []) state (fired state trigger rule) numbered below (rule, is, refl)).0 fact k (added_right state.facts (map (ground (assigned trigger)) rule.head) fact among) has

-- the rules of a schema
pub orderly : (schema : Schema) → AreOrderly schema.rules
orderly schema = record {
  few = schema.valid.rules_are.few;
  bodies = λ rule among. (schema.valid.rules_are.fit rule among).body_some;
  numbered = (rules_fit schema schema.constants (λ c among. among)).numbered;
  variables = λ rule among.
      let most = (schema.valid.rules_are.fit rule among).variables in
      let same = bound_is (rule.body ++ rule.head) in
      let less = last_below rule.body rule.head in
      omega arith;
  non_recursive = schema.valid.rules_are.non_recursive;
}
  where
    last_below : (first second : List Atom) → bound second ≤ bound (first ++ second)
    last_below [] second = omega arith
    last_below (atom ∷ first) second = let l = last_below first second in omega arith
