-- The worked example of the staff: a run with a goal, and the equivalent plan that it gives.
use Rattle.std.proofs.Common.{◌≡◌, ◌⊎◌, ℕ, zero, suc, ◌<◌, List, [], ◌∷◌, length, Some, refl, sym, ap, subst, inr, ⊎_elim, arith}
use Rattle.std.specs.Prelude.{Contains, slice_get, slice_index_or}
use Rattle.std.specs.List.{AllByRecursion}
use Rattle.lists.proofs.Members.{contains_here, contains_cases, some_injective, contains_one}
use Rattle.meaning_laws.proofs.Example.{got_only, no_element, alone_first}
use Rattle.meaning_laws.proofs.Choosing.{select_sound, select_complete}
use Rattle.meaning_laws.proofs.Decided.{extracted}
use Rattle.meaning.specs.declared.types.Term.{Term}
use Rattle.meaning.specs.declared.types.Term.TheVariants.{Var, Const as Said}
use Rattle.meaning.specs.declared.types.Val.{Val}
use Rattle.meaning.specs.declared.types.Val.TheVariants.{Label, Const as Known}
use Rattle.meaning.specs.declared.types.Operand.TheVariants.{Column, Literal}
use Rattle.meaning.specs.declared.types.Atom.{Atom}
use Rattle.meaning.specs.declared.types.Rule.{Rule}
use Rattle.meaning.specs.declared.types.Relation.{Relation}
use Rattle.meaning.specs.declared.types.Condition.{Condition}
use Rattle.meaning.specs.declared.types.Ground.{Ground}
use Rattle.meaning.specs.Values.{Value}
use Rattle.meaning.specs.Instances.{FitsRelation}
use Rattle.meaning.specs.Matching.{OccursIn, GroundsOf, IsQueryAnswer}
use Rattle.meaning.specs.Answers.{AnswersSelect}
use Rattle.meaning.specs.Plans.{IsWellFormed}
use Rattle.meaning.specs.Rows.{IsBranchRow}
use Rattle.meaning.specs.Claims.{IsEquivalent}
use Rattle.meaning.specs.Triggers.{State, IsNumbered, assigned, ground, IsActive, IsFiringRun}
use Rattle.meaning.specs.Runs.{IsFirstActive, Proof, base_state, IsKnownValue, IsBaseQuiet, IsOrderedRun, opening, opening_state, frozen_head, HasGoal}
use Rattle.meaning.specs.Fitting.{HaveConstants, RulesFit, QueryFits, QueryHasConstants}
use Rattle.meaning.specs.Conjunctive.{OperandFits, SelectFits}
use Rattle.meaning.specs.Extract.{Exposure, IsExposing}
use Rattle.meaning_laws.specs.Staff.{profinfo, udirect, prof_by_eid, all_direct, in_directory, staff, smith, smiths, smiths_statement, smiths_query, known, smiths_branch, smiths_plan, smith_profile, smith_entry, smiths_trigger, smiths_log, smiths_end}
use Rattle.meaning_laws.proofs.StaffOffice.{each_of, rule_atom, head_atom, methods_are, one_no_zero}
use Rattle.meaning_laws.proofs.StaffPlans.{the_atom, smiths_form, keyed_name, direct_name}

-- the run
profile_is : (facts : List Ground) (vals : List Val) → facts ≡ smith_profile ∷ smith_entry ∷ [] → Contains facts (record { rel = 0; vals = vals }) → Label 0 ∷ Label 1 ∷ Known smith ∷ [] ≡ vals
profile_is facts vals e c =
    ⊎_elim (λ same. ap (λ (f : Ground). f.vals) same) (λ h. one_no_zero (ap (λ (f : Ground). f.rel) (contains_one smith_entry (record { rel = 0; vals = vals }) h)))
    (contains_cases smith_profile (smith_entry ∷ []) (record { rel = 0; vals = vals }) (subst (λ fs. Contains fs (record { rel = 0; vals = vals })) e c))

base_quiet : (proof : Proof) → proof.base ≡ smith_profile ∷ smith_entry ∷ [] → IsBaseQuiet staff proof
base_quiet proof e trigger rule active =
    let its : IsActive staff.rules (base_state proof) trigger in_directory = subst (λ r. IsActive staff.rules (base_state proof) trigger r) (sym (got_only in_directory rule trigger.rule active.trigger_is.numbered).1) active in
    let vals : Label 0 ∷ Label 1 ∷ Known smith ∷ [] ≡ assigned trigger 0 ∷ assigned trigger 1 ∷ assigned trigger 2 ∷ [] =
    profile_is proof.base (assigned trigger 0 ∷ assigned trigger 1 ∷ assigned trigger 2 ∷ []) e (its.trigger_is.body rule_atom (contains_here rule_atom [])) in
    let number : Label 0 ≡ assigned trigger 0 = ap (λ (vs : List Val). slice_index_or vs 0 (Label 0)) vals in
    let name : Known smith ≡ assigned trigger 2 = ap (λ (vs : List Val). slice_index_or vs 2 (Label 0)) vals in
    its.unmet (assigned trigger) (record {
      agrees = λ x occurs. refl;
      head = λ atom c. subst (λ (a : Atom). Contains proof.base (ground (assigned trigger) a)) (contains_one head_atom atom c)
          (subst (λ v. Contains proof.base (record { rel = 1; vals = v ∷ assigned trigger 2 ∷ [] })) number (subst (λ v. Contains proof.base (record { rel = 1; vals = Label 0 ∷ v ∷ [] })) name
          (subst (λ fs. Contains fs smith_entry) (sym e) (1, omega arith, refl))));
    })

trigger_active : IsActive staff.rules (base_state (opening smiths_query)) smiths_trigger in_directory
trigger_active = record {
  trigger_is = record { numbered = refl; width = refl; fresh = omega arith; body = λ atom c. subst (λ (a : Atom). Contains (smith_profile ∷ []) (ground (assigned smiths_trigger) a)) (contains_one rule_atom atom c) (0, omega arith, refl) };
  next = refl;
  unmet = λ b ext. differ b (contains_one smith_profile (record { rel = 1; vals = b 0 ∷ b 2 ∷ [] }) (ext.head head_atom (contains_here head_atom [])));
}
  where
    differ : (b : ℕ → Val) → smith_profile ≡ record { rel = 1; vals = b 0 ∷ b 2 ∷ [] } → ⊥
    differ b same = one_no_zero (sym (ap (λ (f : Ground). f.rel) same))

trigger_first : IsFirstActive staff.rules (base_state (opening smiths_query)) smiths_trigger in_directory
trigger_first = record { active = trigger_active; first = λ other its active before. alone_first in_directory other.rule before }

abbrev fired_proof : Proof
fired_proof = record { base = smith_profile ∷ smith_entry ∷ []; exposed = []; copy = []; next = 2 }

abbrev entered_proof : Proof
entered_proof = record { base = smith_profile ∷ smith_entry ∷ []; exposed = smith_entry ∷ []; copy = smith_entry ∷ []; next = 2 }

profile_new : Contains (smith_entry ∷ []) smith_profile → ⊥
profile_new c = one_no_zero (ap (λ (f : Ground). f.rel) (contains_one smith_entry smith_profile c))

profile_inputs : (p : ℕ) → Contains prof_by_eid.inputs p → (value : Val) × (slice_get smith_profile.vals p ≡ Some value) × IsKnownValue known (smith_entry ∷ []) value
profile_inputs p c = subst (λ q. (value : Val) × (slice_get smith_profile.vals q ≡ Some value) × IsKnownValue known (smith_entry ∷ []) value) (contains_one 0 p c) (Label 0, refl, inr (smith_entry, (0, omega arith, refl), (0, omega arith, refl)))

pub smiths_run : IsOrderedRun staff known 0 (opening smiths_query) smiths_log smiths_end
smiths_run = (
  omega arith,
  (λ e. absurd (not_copy e)),
  (
    fired_proof,
    (in_directory, trigger_first, refl),
    (
      omega arith,
      (λ e. absurd (one_two e)),
      (
        entered_proof,
        (
          all_direct,
          record { of_base = (1, omega arith, refl); new = λ c. no_element c; named = refl; of_relation = refl; inputs = λ p c. absurd (no_element c) },
          base_quiet fired_proof refl,
          refl,
        ),
        (
          omega arith,
          (λ e. absurd (one_two e)),
          (
            smiths_end,
            (
              prof_by_eid,
              record { of_base = (0, omega arith, refl); new = profile_new; named = refl; of_relation = refl; inputs = profile_inputs },
              base_quiet entered_proof refl,
              refl,
            ),
            refl,
          ),
        ),
      ),
    ),
  ),
)
  where
    not_copy : ◌≡◌ {A = ℕ} 0 2 → ⊥
    not_copy e = omega arith

    one_two : ◌≡◌ {A = ℕ} 1 2 → ⊥
    one_two e = omega arith

smiths_match : IsQueryAnswer Known (GroundsOf smiths_end.copy) smiths_query (frozen_head smiths_query)
smiths_match = (Label, (λ atom c. subst (λ (a : Atom). Contains smiths_end.copy (ground Label a)) (contains_one the_atom atom c) (1, omega arith, refl)), refl)

pub smiths_goal : HasGoal (smiths_query ∷ []) smiths_end (frozen_head smiths_query)
smiths_goal = (smiths_query, (0, omega arith, refl), smiths_match)

-- the plan is the branch that the run gives
well_formed : IsWellFormed staff
well_formed = record {
  once = λ first second c d e. methods_are (λ m. m.name ≡ second.name → m ≡ second) (λ n. keyed_name second (d, sym n)) (λ n. direct_name second (d, sym n)) first c e;
  inputs = λ method relation p c got i. methods_are (λ m. slice_get staff.relations m.rel ≡ Some relation → Contains m.inputs p → p < length relation.columns) (keyed relation p) (λ g d. absurd (no_element d)) method c got i;
}
  where
    keyed : (relation : Relation) (p : ℕ) → slice_get staff.relations 0 ≡ Some relation → Contains (0 ∷ []) p → p < length relation.columns
    keyed relation p got c =
        let long : length profinfo.columns ≡ length relation.columns = ap (λ (r : Relation). length r.columns) (some_injective profinfo relation got) in
        let three_columns : 3 ≡ length relation.columns = long in
        let zeroth : 0 ≡ p = contains_one 0 p c in omega arith

-- the constants of one atom over variables and the name
no_constant : (terms : List Term) → AllByRecursion (λ t. (c : Value) → t ≡ Said c → Contains known c) terms → (c : Value) → Contains terms (Said c) → Contains known c
no_constant terms all c i = each_of (λ t. (c : Value) → t ≡ Said c → Contains known c) terms all (Said c) i c refl

variable_no : (k : ℕ) (c : Value) → Var k ≡ Said c → Contains known c
variable_no k c e = absurd (cc)

rules_fit : RulesFit staff known
rules_fit = record {
  numbered = λ rule c. subst (λ r. IsNumbered r) (contains_one in_directory rule c) rule_numbered;
  have = λ rule c. subst (λ (r : Rule). HaveConstants known r.body × HaveConstants known r.head) (contains_one in_directory rule c) (body_have, head_have);
  heads = λ rule atom c d. subst (λ (a : Atom). FitsRelation staff a.rel a.terms) (contains_one head_atom atom (subst (λ (r : Rule). Contains r.head atom) (sym (contains_one in_directory rule c)) d)) (record { relation = udirect; there = refl; width = refl });
}
  where
    occurs : (x : ℕ) → x < 3 → OccursIn (rule_atom ∷ []) x
    occurs zero l = (rule_atom, contains_here rule_atom [], (0, omega arith, refl))
    occurs (suc zero) l = (rule_atom, contains_here rule_atom [], (1, omega arith, refl))
    occurs (suc (suc zero)) l = (rule_atom, contains_here rule_atom [], (2, omega arith, refl))
    occurs (suc (suc (suc x))) l = absurd (omega arith)

    rule_numbered : IsNumbered in_directory
    rule_numbered = record { body = λ x l. occurs x l; head = λ x l m. absurd (omega arith) }

    body_have : HaveConstants known (rule_atom ∷ [])
    body_have atom c d i = no_constant (Var 0 ∷ Var 1 ∷ Var 2 ∷ []) (variable_no 0, (variable_no 1, (variable_no 2, tt))) c (subst (λ (a : Atom). Contains a.terms (Said c)) (sym (contains_one rule_atom atom d)) i)

    head_have : HaveConstants known (head_atom ∷ [])
    head_have atom c d i = no_constant (Var 0 ∷ Var 2 ∷ []) (variable_no 0, (variable_no 2, tt)) c (subst (λ (a : Atom). Contains a.terms (Said c)) (sym (contains_one head_atom atom d)) i)

query_fits : QueryFits staff smiths_query
query_fits = record {
  arity = λ atom c. subst (λ (a : Atom). FitsRelation staff a.rel a.terms) (contains_one the_atom atom c) (record { relation = profinfo; there = refl; width = refl });
  variables = omega arith;
  head = λ x c. each_of (λ t. (y : ℕ) → t ≡ Var y → OccursIn (the_atom ∷ []) y) smiths_query.head (at 0 (0, omega arith, refl), (at 1 (1, omega arith, refl), tt)) (Var x) c x refl;
}
  where
    at : (k : ℕ) → Contains the_atom.terms (Var k) → (y : ℕ) → Var k ≡ Var y → OccursIn (the_atom ∷ []) y
    at k c y e = let same : k ≡ y = cc in subst (λ n. OccursIn (the_atom ∷ []) n) same (the_atom, contains_here the_atom [], c)

query_constants : QueryHasConstants known smiths_query
query_constants = record {
  atoms = λ atom c d i. no_constant the_atom.terms (variable_no 0, (variable_no 1, (λ t e. named t e, tt))) c (subst (λ (a : Atom). Contains a.terms (Said c)) (sym (contains_one the_atom atom d)) i);
  head = λ c i. no_constant smiths_query.head (variable_no 0, (variable_no 1, tt)) c i;
}
  where
    named : (t : Value) → Said smith ≡ Said t → Contains known t
    named t e = let same : smith ≡ t = cc in subst (λ v. Contains known v) same (contains_here smith [])

select_fits : SelectFits staff smiths
select_fits = record {
  froms = λ rel c. (profinfo, ap (slice_get staff.relations) (sym (contains_one 0 rel c)));
  conditions = λ condition c. subst (λ (d : Condition). OperandFits staff smiths d.left × OperandFits staff smiths d.right) (contains_one (record { left = Column 0 2; right = Literal smith }) condition c) ((0, profinfo, refl, refl, omega arith), tt);
  items = each_of (OperandFits staff smiths) smiths.items ((0, profinfo, refl, refl, omega arith), ((0, profinfo, refl, refl, omega arith), tt));
}

abbrev exposures : List Exposure
exposures = record { method = all_direct; fact = smith_entry } ∷ record { method = prof_by_eid; fact = smith_profile } ∷ []

abbrev middle : State
middle = record { facts = smith_profile ∷ smith_entry ∷ []; next = 2 }

base_run : IsFiringRun staff.rules (opening_state smiths_query) (smiths_trigger ∷ []) middle
base_run = (in_directory, trigger_active.trigger_is, refl)

exposing : IsExposing staff known middle.facts [] exposures
exposing = (
  record { of_base = (1, omega arith, refl); new = λ c. no_element c; of_schema = (1, omega arith, refl); of_relation = refl; inputs = λ p c. absurd (no_element c) },
  (record { of_base = (0, omega arith, refl); new = profile_new; of_schema = (0, omega arith, refl); of_relation = refl; inputs = profile_inputs }, tt),
)

pub smiths_plan_is_equivalent : IsEquivalent smiths_plan smiths_statement staff
smiths_plan_is_equivalent =
    let (lawful, sound, complete) = extracted staff known smiths_query smiths_query well_formed rules_fit query_fits query_fits query_constants (smiths_trigger ∷ []) middle exposures [] (record { facts = smith_entry ∷ smith_profile ∷ []; next = 2 }) base_run exposing refl smiths_match in
    record {
      sound = λ facts row model (branch, c, rows). (smiths, contains_here smiths [], select_sound staff smiths smiths_query smiths_form facts row select_fits (sound facts row model.meets (subst (λ b. IsBranchRow staff b facts row) (sym (contains_one smiths_branch branch c)) rows)));
      complete = λ facts row model (select, c, answer). (smiths_branch, contains_here smiths_branch [], complete facts row model.meets (select_complete staff smiths smiths_query smiths_form facts row select_fits model.fits (subst (λ s. AnswersSelect s facts row) (sym (contains_one smiths select c)) answer)));
    }
