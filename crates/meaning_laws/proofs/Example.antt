-- The premises of the laws can be met: r(a), s(a), a method on s alone, the rule r(x) -> s(x), and the query r(x).
use Rattle.std.proofs.Common.{◌≡◌, ℕ, zero, suc, ◌<◌, ◌≤◌, List, [], ◌∷◌, ◌++◌, length, Some, refl, sym, ap, ◌∙◌, subst, ⊎_elim, arith}
use Rattle.std.specs.Prelude.{slice_index_or, Contains, slice_get, map}
use Rattle.lists.proofs.Members.{contains_here, contains_there, contains_cases, some_injective, contains_one}
use Rattle.meaning_laws.proofs.Kept.{ordered_is_run, run_refutes}
use Rattle.meaning_laws.proofs.Decided.{read_from_run}
use Rattle.meaning_laws.proofs.Closing.{plan_from_branches}
use Rattle.meaning.specs.declared.types.Branch.{Branch}
use Rattle.meaning.specs.declared.types.Fact.{Fact}
use Rattle.meaning_laws.specs.Small.{r_relation, s_relation, all_s, all_r, r_atom, s_atom, r_to_s, closed_schema, open_schema, all_of_r, r_statement, r_query, r_fact, s_fact, r_trigger, closed_log, closed_end, open_log, open_end, hasty_log, hasty_end}
use Rattle.meaning.specs.Instances.{IsInstance}
use Rattle.meaning_laws.proofs.Monotone.{no_plan_lem}
use Rattle.meaning_laws.proofs.Renaming.{naming_exists}
use Rattle.meaning_laws.proofs.Choosing.{select_sound, select_complete}
use Rattle.meaning.specs.declared.types.Term.TheVariants.{Var, Const as Said}
use Rattle.meaning.specs.declared.types.Val.{Val}
use Rattle.meaning.specs.declared.types.Val.TheVariants.{Const, Label}
use Rattle.meaning.specs.declared.types.Operand.{Operand}
use Rattle.meaning.specs.declared.types.Operand.TheVariants.{Column, Literal}
use Rattle.meaning.specs.declared.types.Atom.{Atom}
use Rattle.meaning.specs.declared.types.Rule.{Rule}
use Rattle.meaning.specs.declared.types.Method.{Method}
use Rattle.meaning.specs.declared.types.Relation.{Relation}
use Rattle.meaning.specs.declared.types.SchemaParts.{SchemaParts}
use Rattle.meaning.specs.declared.types.Ground.{Ground}
use Rattle.meaning.specs.declared.types.Plan.{Plan}
use Rattle.meaning.specs.declared.types.Firing.{Firing}
use Rattle.meaning.specs.declared.types.Firing.TheVariants.{Expose}
use Rattle.meaning.specs.Matching.{GroundsOf, IsQueryAnswer, AnswersQuery, OccursIn}
use Rattle.meaning.specs.Answers.{AnswersSelect}
use Rattle.meaning.specs.Plans.{IsWellFormed, IsLawful}
use Rattle.meaning.specs.Claims.{IsEquivalent, Refutes}
use Rattle.meaning.specs.Homomorphisms.{renamed, image}
use Rattle.meaning.specs.Triggers.{ground, IsNumbered, assigned, IsActive, fired}
use Rattle.meaning.specs.RuleOrder.{StandsBefore}
use Rattle.meaning.specs.Runs.{HasGoal, IsFirstActive, Proof, base_state, copy_state, IsBaseQuiet, NoExposure, IsActiveExposure, IsRun, IsOrderedRun, IsStuck, opening, frozen_head}
use Rattle.meaning.specs.Naming.{IsNaming}
use Rattle.meaning.specs.Fitting.{HaveConstants, RulesFit, QueryFits, QueryHasConstants}
use Rattle.meaning.specs.Conjunctive.{StandFor, AreJoined, alike, IsConjunctive, SelectFits, OperandFits, term_of}

pub got_only : {X : Type 0} (x y : X) (i : ℕ) → slice_get (x ∷ []) i ≡ Some y → (i ≡ 0) × (x ≡ y)
got_only x y zero e = (refl, some_injective x y e)
got_only x y (suc i) e = absurd (cc)

pub no_element : {X : Type 0} {x : X} → Contains [] x → ⊥
no_element c = omega arith

rules_fit : RulesFit closed_schema []
rules_fit = record {
  numbered = λ rule c. subst (λ r. IsNumbered r) (contains_one r_to_s rule c) numbered;
  have = λ rule c. subst (λ (r : Rule). HaveConstants [] r.body × HaveConstants [] r.head) (contains_one r_to_s rule c) (none r_atom, none s_atom);
  heads = λ rule atom c d. record { relation = s_relation; there = at rule atom c d; width = long rule atom c d };
}
  where
    numbered : IsNumbered r_to_s
    numbered = record { body = λ x l. let e : 0 ≡ x = omega arith in subst (λ y. OccursIn (r_atom ∷ []) y) e (r_atom, contains_here r_atom [], contains_here (Var 0) []); head = λ x l m. absurd (omega arith) }

    none : (atom : Atom) → HaveConstants [] (record { rel = atom.rel; terms = Var 0 ∷ [] } ∷ [])
    none atom other c d i = let e = contains_one (record { rel = atom.rel; terms = Var 0 ∷ [] }) other d in let f : Var 0 ≡ Said c = contains_one (Var 0) (Said c) (subst (λ (x : Atom). Contains x.terms (Said c)) (sym e) i) in absurd (cc)

    the_head : (rule : Rule) (atom : Atom) → Contains closed_schema.rules rule → Contains rule.head atom → s_atom ≡ atom
    the_head rule atom c d = contains_one s_atom atom (subst (λ (r : Rule). Contains r.head atom) (sym (contains_one r_to_s rule c)) d)

    at : (rule : Rule) (atom : Atom) → Contains closed_schema.rules rule → Contains rule.head atom → slice_get closed_schema.relations atom.rel ≡ Some s_relation
    at rule atom c d = subst (λ (a : Atom). slice_get closed_schema.relations a.rel ≡ Some s_relation) (the_head rule atom c d) refl

    long : (rule : Rule) (atom : Atom) → Contains closed_schema.rules rule → Contains rule.head atom → length atom.terms ≡ 1
    long rule atom c d = ap (λ (a : Atom). length a.terms) (sym (the_head rule atom c d))

query_fits : QueryFits closed_schema r_query
query_fits = record {
  arity = λ atom c. record { relation = r_relation; there = subst (λ (a : Atom). slice_get closed_schema.relations a.rel ≡ Some r_relation) (contains_one r_atom atom c) refl; width = ap (λ (a : Atom). length a.terms) (sym (contains_one r_atom atom c)) };
  variables = omega arith;
  head = λ x c. let e : 0 ≡ x = zero_is x (contains_one (Var 0) (Var x) c) in subst (λ y. OccursIn (r_atom ∷ []) y) e (r_atom, contains_here r_atom [], contains_here (Var 0) []);
}
  where
    zero_is : (x : ℕ) → Var 0 ≡ Var x → 0 ≡ x
    zero_is x e = cc

query_constants : QueryHasConstants [] r_query
query_constants = record { atoms = λ atom c d i. let f : Var 0 ≡ Said c = contains_one (Var 0) (Said c) (subst (λ (x : Atom). Contains x.terms (Said c)) (sym (contains_one r_atom atom d)) i) in absurd (cc); head = λ c i. let f : Var 0 ≡ Said c = contains_one (Var 0) (Said c) i in absurd (cc) }

conjunctive : IsConjunctive closed_schema all_of_r r_query
conjunctive = record {
  atoms = ((refl, record { relation = r_relation; there = refl; width = refl }), tt);
  joined = λ condition c. absurd (no_element c);
  only = only_one;
  head = refl;
}
  where
    column_zero : (from column : ℕ) → OperandFits closed_schema all_of_r (Column from column) → (0 ≡ from) × (0 ≡ column)
    column_zero from column (rel, relation, got, got', l) =
        let (first, is_rel) = got_only 0 rel from got in
        let its : r_relation ≡ relation = some_injective r_relation relation (subst (λ n. slice_get closed_schema.relations n ≡ Some relation) (sym is_rel) got') in
        let long : column < 1 = subst (λ (x : Relation). column < length x.columns) (sym its) l in
        let zeroth : 0 ≡ column = omega arith in
        (sym first, zeroth)

    term_zero : (from column : ℕ) → OperandFits closed_schema all_of_r (Column from column) → term_of (r_atom ∷ []) (Column from column) ≡ Var 0
    term_zero from column fits = let (f, c) = column_zero from column fits in sym (λ i. term_of (r_atom ∷ []) (Column (f i) (c i)))

    only_one : (o p : Operand) → OperandFits closed_schema all_of_r o → OperandFits closed_schema all_of_r p → term_of (r_atom ∷ []) o ≡ term_of (r_atom ∷ []) p → AreJoined [] o p
    only_one (Literal text) (Literal other) fits fits' e = let same : text ≡ other = cc in subst (λ t. AreJoined [] (Literal text) (Literal t)) same (alike (Literal text))
    only_one (Literal text) (Column from column) fits fits' e = let clash : Said text ≡ Var 0 = e ∙ term_zero from column fits' in absurd (cc)
    only_one (Column from column) (Literal text) fits fits' e = let clash : Said text ≡ Var 0 = sym e ∙ term_zero from column fits in absurd (cc)
    only_one (Column from column) (Column from' column') fits fits' e =
        let (f, c) = column_zero from column fits in
        let (f', c') = column_zero from' column' fits' in
        subst (λ o. AreJoined [] (Column from column) o) (λ i. Column (f' i) (c' i)) (subst (λ o. AreJoined [] o (Column 0 0)) (λ i. Column (f i) (c i)) (alike (Column 0 0)))

select_fits : SelectFits closed_schema all_of_r
select_fits = record {
  froms = λ rel c. (r_relation, ap (slice_get closed_schema.relations) (sym (contains_one 0 rel c)));
  conditions = λ condition c. absurd (no_element c);
  items = λ item c. subst (λ o. OperandFits closed_schema all_of_r o) (contains_one (Column 0 0) item c) (0, r_relation, refl, refl, omega arith);
}

stand : StandFor closed_schema (r_query ∷ []) r_statement
stand = record {
  sound = λ facts row query fits c answer. (all_of_r, contains_here all_of_r [], select_sound closed_schema all_of_r r_query conjunctive facts row select_fits (subst (λ q. AnswersQuery q facts row) (sym (contains_one r_query query c)) answer));
  complete = λ facts row fits (select, c, answer). (r_query, contains_here r_query [], select_complete closed_schema all_of_r r_query conjunctive facts row select_fits fits (subst (λ s. AnswersSelect s facts row) (sym (contains_one all_of_r select c)) answer));
}

-- facts of the relation r and of s
r_is : (facts : List Ground) (vals : List Val) → facts ≡ r_fact ∷ s_fact ∷ [] → Contains facts (record { rel = 0; vals = vals }) → Label 0 ∷ [] ≡ vals
r_is facts vals e c =
    ⊎_elim (λ same. ap (λ (f : Ground). f.vals) same) (λ h. absurd (differ vals (contains_one s_fact (record { rel = 0; vals = vals }) h)))
    (contains_cases r_fact (s_fact ∷ []) (record { rel = 0; vals = vals }) (subst (λ fs. Contains fs (record { rel = 0; vals = vals })) e c))
  where
    differ : (vals : List Val) → s_fact ≡ record { rel = 0; vals = vals } → ⊥
    differ vals same = let rel : ◌≡◌ {A = ℕ} 1 0 = ap (λ (f : Ground). f.rel) same in omega arith

base_quiet : (proof : Proof) → proof.base ≡ r_fact ∷ s_fact ∷ [] → IsBaseQuiet closed_schema proof
base_quiet proof e trigger rule active =
    let its : IsActive closed_schema.rules (base_state proof) trigger r_to_s = subst (λ r. IsActive closed_schema.rules (base_state proof) trigger r) (sym (got_only r_to_s rule trigger.rule active.trigger_is.numbered).1) active in
    let vals : Label 0 ∷ [] ≡ assigned trigger 0 ∷ [] = r_is proof.base (assigned trigger 0 ∷ []) e (its.trigger_is.body r_atom (contains_here r_atom [])) in
    its.unmet (assigned trigger) (record {
      agrees = λ x occurs. refl;
      head = λ atom c. subst (λ (a : Atom). Contains proof.base (ground (assigned trigger) a)) (contains_one s_atom atom c)
          (subst (λ vs. Contains proof.base (record { rel = 1; vals = vs })) vals (subst (λ fs. Contains fs s_fact) (sym e) (contains_there r_fact (s_fact ∷ []) s_fact (contains_here s_fact []))));
    })

r_only_active : IsActive closed_schema.rules (base_state (opening r_query)) r_trigger r_to_s
r_only_active = record {
  trigger_is = record { numbered = refl; width = refl; fresh = omega arith; body = λ atom c. subst (λ (a : Atom). Contains (r_fact ∷ []) (ground (assigned r_trigger) a)) (contains_one r_atom atom c) (contains_here r_fact []) };
  next = refl;
  unmet = λ b ext. differ b (contains_one r_fact (record { rel = 1; vals = b 0 ∷ [] }) (ext.head s_atom (contains_here s_atom [])));
}
  where
    differ : (b : ℕ → Val) → r_fact ≡ record { rel = 1; vals = b 0 ∷ [] } → ⊥
    differ b same = let rel : ◌≡◌ {A = ℕ} 0 1 = ap (λ (f : Ground). f.rel) same in omega arith

-- of one rule alone none stands before
pub alone_first : (rule : Rule) (i : ℕ) → StandsBefore (rule ∷ []) i 0 → ⊥
alone_first rule i stands =
    let record { first = one; second = two; low = m; high = n; first_is = g; second_is = g'; first_level = level; second_level = level'; before = order } = stands in
    let one_is : rule ≡ one = (got_only rule one i g).1 in
    let two_is : rule ≡ two = (got_only rule two 0 g').1 in
    let (atom, among, its) = level'.reached in
    let top : n ≤ m = level.greatest atom n (subst (λ (r : Rule). Contains r.body atom) (sym two_is ∙ one_is) among) its in
    ⊎_elim (λ less. absurd (omega arith)) (λ equal. let less = equal.1 in absurd (omega arith)) order

first_active : IsFirstActive closed_schema.rules (base_state (opening r_query)) r_trigger r_to_s
first_active = record { active = r_only_active; first = λ other its active before. alone_first r_to_s other.rule before }

closed_run : IsOrderedRun closed_schema [] 0 (opening r_query) (closed_log) closed_end
closed_run = (
  omega arith,
  (λ e. absurd (zero_two e)),
  (
    record { base = r_fact ∷ s_fact ∷ []; exposed = []; copy = []; next = 1 },
    (r_to_s, first_active, refl),
    (
      omega arith,
      (λ e. absurd (one_two e)),
      (
        closed_end,
        (
          all_s,
          record { of_base = contains_there r_fact (s_fact ∷ []) s_fact (contains_here s_fact []); new = λ c. no_element c; named = refl; of_relation = refl; inputs = λ p c. absurd (no_element c) },
          base_quiet (record { base = r_fact ∷ s_fact ∷ []; exposed = []; copy = []; next = 1 }) refl,
          refl,
        ),
        refl,
      ),
    ),
  ),
)
  where
    zero_two : ◌≡◌ {A = ℕ} 0 2 → ⊥
    zero_two e = omega arith

    one_two : ◌≡◌ {A = ℕ} 1 2 → ⊥
    one_two e = omega arith

no_r : (vals : List Val) → Contains (s_fact ∷ []) (record { rel = 0; vals = vals }) → ⊥
no_r vals c = let rel : ◌≡◌ {A = ℕ} 1 0 = ap (λ (f : Ground). f.rel) (contains_one s_fact (record { rel = 0; vals = vals }) c) in omega arith

stuck : IsStuck closed_schema [] (r_query ∷ []) closed_end (frozen_head r_query)
stuck = record {
  base = base_quiet closed_end refl;
  exposures = exposures;
  copy = λ trigger rule active. let its = subst (λ r. IsActive closed_schema.rules (copy_state closed_end) trigger r) (sym (got_only r_to_s rule trigger.rule active.trigger_is.numbered).1) active in
      no_r (assigned trigger 0 ∷ []) (its.trigger_is.body r_atom (contains_here r_atom []));
  goal = λ (query, c, answer). goal (subst (λ q. IsQueryAnswer Const (GroundsOf closed_end.copy) q (frozen_head r_query)) (sym (contains_one r_query query c)) answer);
}
  where
    exposures : NoExposure closed_schema [] closed_end
    exposures number fact method active =
        let is : all_s ≡ method = (got_only all_s method number active.named).1 in
        let rel : 1 ≡ fact.rel = ap (λ (m : Method). m.rel) is ∙ active.of_relation in
        ⊎_elim (λ e. let zero_rel : 0 ≡ fact.rel = ap (λ (f : Ground). f.rel) e in absurd (omega arith)) (λ h. active.new h) (contains_cases r_fact (s_fact ∷ []) fact active.of_base)

    goal : IsQueryAnswer Const (GroundsOf closed_end.copy) r_query (frozen_head r_query) → ⊥
    goal (a, are, e) = no_r (a 0 ∷ []) (are r_atom (contains_here r_atom []))

-- so there is a pair that refutes
pub small_refutes : (h : ℕ → List ℕ) → IsNaming [] 1 h → Refutes closed_schema [] r_statement (renamed h closed_end.base) (renamed h closed_end.copy) (map (image h) (frozen_head r_query))
small_refutes h naming =
    run_refutes closed_schema [] r_statement (r_query ∷ []) r_query (closed_log) closed_end h rules_fit stand (contains_here r_query [])
    (λ q c. subst (λ x. QueryHasConstants [] x) (contains_one r_query q c) query_constants) query_fits (ordered_is_run closed_schema [] 0 (opening r_query) (closed_log) closed_end closed_run) stuck naming

well_formed : IsWellFormed closed_schema
well_formed = record {
  once = λ first second c d e. sym (contains_one all_s first c) ∙ contains_one all_s second d;
  inputs = λ method relation p c g i. absurd (no_element (subst (λ (m : Method). Contains m.inputs p) (sym (contains_one all_s method c)) i));
}

-- and no lawful plan is equivalent
pub small_no_plan : (plan : Plan) → IsLawful plan closed_schema [] → IsEquivalent plan r_statement closed_schema → ⊥
small_no_plan plan lawful equivalent =
    let (h, naming) = naming_exists [] in
    no_plan_lem closed_schema [] r_statement (renamed h closed_end.base) (renamed h closed_end.copy) (map (image h) (frozen_head r_query)) well_formed (small_refutes h (naming 1)) plan lawful equivalent

-- with a method on r there is a run that reaches the goal, and so a plan
open_fits : RulesFit open_schema []
open_fits = record {
  numbered = rules_fit.numbered;
  have = rules_fit.have;
  heads = λ rule atom c d. let fit = rules_fit.heads rule atom c d in record { relation = fit.relation; there = fit.there; width = fit.width };
}

open_query_fits : QueryFits open_schema r_query
open_query_fits = record { arity = λ atom c. let fit = query_fits.arity atom c in record { relation = fit.relation; there = fit.there; width = fit.width }; variables = query_fits.variables; head = query_fits.head }

open_run : IsOrderedRun open_schema [] 0 (opening r_query) (open_log) open_end
open_run = (
  omega arith,
  (λ e. absurd (zero_two e)),
  (
    record { base = r_fact ∷ s_fact ∷ []; exposed = []; copy = []; next = 1 },
    (r_to_s, first_active, refl),
    (
      omega arith,
      (λ e. absurd (one_two e)),
      (
        open_end,
        (
          all_r,
          record { of_base = contains_here r_fact (s_fact ∷ []); new = λ c. no_element c; named = refl; of_relation = refl; inputs = λ p c. absurd (no_element c) },
          base_quiet (record { base = r_fact ∷ s_fact ∷ []; exposed = []; copy = []; next = 1 }) refl,
          refl,
        ),
        refl,
      ),
    ),
  ),
)
  where
    zero_two : ◌≡◌ {A = ℕ} 0 2 → ⊥
    zero_two e = omega arith

    one_two : ◌≡◌ {A = ℕ} 1 2 → ⊥
    one_two e = omega arith

open_goal : HasGoal (r_query ∷ []) open_end (frozen_head r_query)
open_goal = (r_query, contains_here r_query [], (Label, (λ atom c. subst (λ (a : Atom). Contains (r_fact ∷ []) (ground Label a)) (contains_one r_atom atom c) (contains_here r_fact [])), refl))

open_well : IsWellFormed open_schema
open_well = record {
  once = λ first second c d e. ⊎_elim (λ i. ⊎_elim (λ j. sym i ∙ j) (λ j. absurd (differ (ap (λ (m : Method). m.name) i ∙ e ∙ sym (ap (λ (m : Method). m.name) (contains_one all_r second j))))) (contains_cases all_s (all_r ∷ []) second d))
      (λ i. ⊎_elim (λ j. absurd (differ (ap (λ (m : Method). m.name) j ∙ sym e ∙ sym (ap (λ (m : Method). m.name) (contains_one all_r first i))))) (λ j. sym (contains_one all_r first i) ∙ contains_one all_r second j) (contains_cases all_s (all_r ∷ []) second d)) (contains_cases all_s (all_r ∷ []) first c);
  inputs = λ method relation p c g i. ⊎_elim (λ e. absurd (no_element (subst (λ (m : Method). Contains m.inputs p) (sym e) i))) (λ h. absurd (no_element (subst (λ (m : Method). Contains m.inputs p) (sym (contains_one all_r method h)) i))) (contains_cases all_s (all_r ∷ []) method c);
}
  where
    differ : all_s.name ≡ all_r.name → ⊥
    differ e = let last : ◌≡◌ {A = ℕ} 115 114 = ap (λ (l : List ℕ). slice_index_or l 4 0) e in omega arith

open_stand : StandFor open_schema (r_query ∷ []) r_statement
open_stand = record { sound = λ facts row query fits c answer. stand.sound facts row query (closed facts fits) c answer; complete = λ facts row fits answer. stand.complete facts row (closed facts fits) answer }
  where
    closed : (facts : List Fact) → IsInstance open_schema facts → IsInstance closed_schema facts
    closed facts fits fact c = let fit = fits fact c in record { relation = fit.relation; there = fit.there; width = fit.width }

pub small_plan : (plan : Plan) × IsLawful plan open_schema [] × IsEquivalent plan r_statement open_schema
small_plan =
    let (branch, is, long) = read_from_run open_schema [] (r_query ∷ []) r_query (open_log) open_end open_well open_fits open_query_fits
    (λ q c. subst (λ x. QueryFits open_schema x) (contains_one r_query q c) open_query_fits) query_constants (ordered_is_run open_schema [] 0 (opening r_query) (open_log) open_end open_run) open_goal in
    let plan : Plan = record { width = 1; branches = branch ∷ [] } in
    let both = plan_from_branches open_schema [] r_statement (r_query ∷ []) plan open_stand (is, tt) (λ other c. ap (λ (b : Branch). length b.output) (sym (contains_one branch other c)) ∙ long) in
    (plan, both.0, both.1)

-- a run that makes a copy firing while an exposure waits
pub hasty_run : IsRun open_schema [] 0 (opening r_query) hasty_log hasty_end
hasty_run = (
  omega arith,
  (
    record { base = r_fact ∷ s_fact ∷ []; exposed = []; copy = []; next = 1 },
    (r_to_s, first_active, refl),
    (
      omega arith,
      (
        open_end,
        (
          all_r,
          record { of_base = contains_here r_fact (s_fact ∷ []); new = λ c. no_element c; named = refl; of_relation = refl; inputs = λ p c. absurd (no_element c) },
          base_quiet (record { base = r_fact ∷ s_fact ∷ []; exposed = []; copy = []; next = 1 }) refl,
          refl,
        ),
        (omega arith, (hasty_end, (r_to_s, first_active, base_quiet open_end refl, refl), refl)),
      ),
    ),
  ),
)

pub hasty_is_not_ordered : IsOrderedRun open_schema [] 0 (opening r_query) hasty_log hasty_end → ⊥
hasty_is_not_ordered (order, waits, (first, (rule, active, e), (order', waits', (second, (method, exposure, quiet, e'), (order'', waits'', rest))))) =
    waits'' refl 0 s_fact all_s (subst (λ p. IsActiveExposure open_schema [] p 0 s_fact all_s) (sym second_is) (record {
      of_base = contains_there r_fact (s_fact ∷ []) s_fact (contains_here s_fact []);
      new = λ c. s_is_new c;
      named = refl;
      of_relation = refl;
      inputs = λ p c. absurd (no_element c);
    }))
  where
    first_is : first ≡ record { base = r_fact ∷ s_fact ∷ []; exposed = []; copy = []; next = 1 }
    first_is = e ∙ ap (λ (r : Rule). record { base = (fired (base_state (opening r_query)) r_trigger r).facts; exposed = []; copy = []; next = (fired (base_state (opening r_query)) r_trigger r).next }) (sym (got_only r_to_s rule 0 active.active.trigger_is.numbered).1)

    second_is : second ≡ open_end
    second_is = subst (λ (p : Proof). second ≡ record p { exposed = p.exposed ++ r_fact ∷ []; copy = p.copy ++ r_fact ∷ [] }) first_is e'

    s_is_new : Contains (r_fact ∷ []) s_fact → ⊥
    s_is_new c = let rel : ◌≡◌ {A = ℕ} 0 1 = ap (λ (f : Ground). f.rel) (contains_one r_fact s_fact c) in omega arith

-- no exposure follows a copy firing
pub parts_stand_in_order : (schema : SchemaParts) (constants : List (List ℕ)) (proof end : Proof) (method : ℕ) (fact : Ground) (log : List Firing) → IsRun schema constants 2 proof (Expose method fact ∷ log) end → ⊥
parts_stand_in_order schema constants proof end method fact log (order, rest) = omega arith
