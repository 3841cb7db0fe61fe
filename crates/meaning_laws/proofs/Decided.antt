-- An ordered run that reaches a goal gives a branch that is lawful, sound for the queries and complete for its own.
use Rattle.std.proofs.Common.{length, ◌≡◌, ℕ, ◌+◌, ◌-◌, ◌<◌, List, [], ◌∷◌, ◌++◌, refl, sym, ap, ◌∙◌, subst, ⊎_elim, arith, append_assoc}
use Rattle.std.specs.Prelude.{Contains, map}
use Rattle.std.proofs.lemmas.Bool.{cases_lt}
use Rattle.std.proofs.lemmas.List.{append-nil, length-map}
use Rattle.std.proofs.lemmas.List.Elements.{Contains-push_cases}
use Rattle.lists.proofs.Members.{contains_cases, contains_got, contains_map, contains_mapped, some_injective}
use Rattle.meaning_laws.proofs.Added.{added_cases}
use Rattle.meaning_laws.proofs.Fits.{fits_alike}
use Rattle.meaning_laws.proofs.Carrying.{fresh_is}
use Rattle.meaning_laws.proofs.Extracting.{columns_kept, columns_have}
use Rattle.meaning_laws.proofs.Extracted.{extract_sound, extract_complete, all_have}
use Rattle.meaning_laws.proofs.Reading.{extract_lawful}
use Rattle.meaning_laws.proofs.Keeping.{Keeps, run_keeps}
use Rattle.meaning_laws.proofs.Kept.{kept_opening}
use Rattle.meaning.specs.declared.types.Term.{Term}
use Rattle.meaning.specs.declared.types.Term.TheVariants.{Var, Const as Said}
use Rattle.meaning.specs.declared.types.Val.{Val}
use Rattle.meaning.specs.declared.types.Val.TheVariants.{Const, Label}
use Rattle.meaning.specs.declared.types.Rule.{Rule}
use Rattle.meaning.specs.declared.types.Ground.{Ground}
use Rattle.meaning.specs.declared.types.Query.{Query}
use Rattle.meaning.specs.declared.types.SchemaParts.{SchemaParts}
use Rattle.meaning.specs.declared.types.Trigger.{Trigger}
use Rattle.meaning.specs.declared.types.Firing.{Firing}
use Rattle.meaning.specs.declared.types.Firing.TheVariants.{Base, Copy, Expose}
use Rattle.meaning.specs.Matching.{value_of, IsQueryAnswer, GroundsOf, AnswersQuery, Meets}
use Rattle.meaning.specs.Plans.{IsWellFormed, IsLawfulBranch}
use Rattle.meaning.specs.Rows.{IsBranchRow}
use Rattle.meaning.specs.Triggers.{bound, ground, State, AreNumbered, assigned, IsTrigger, fired, IsFiringRun, IsNumbered}
use Rattle.meaning.specs.Runs.{Proof, base_state, copy_state, IsRun, opening, frozen_head, HasGoal, IsKnownValue, opening_state}
use Rattle.meaning.specs.Naming.{AreNamed}
use Rattle.meaning.specs.Fitting.{IsKept, RulesFit, QueryFits, QueryHasConstants}
use Rattle.meaning.specs.Extract.{all_columns, out_of, Exposure, exposed_facts, IsExposing, AreInOrder, IsInput, columns_after, branch_of, IsQueryRival, IsDerivation, IsHeadKnown}
use Rattle.meaning.specs.declared.types.Branch.{Branch}
use Rattle.meaning.specs.declared.types.Fact.{Fact}
use Rattle.meaning.specs.declared.types.Select.{Select}
use Rattle.meaning.specs.declared.types.Statement.{Statement}
use Rattle.meaning.specs.Costs.{IsRival}
use Rattle.meaning.specs.Conjunctive.{SelectFits, term_of, IsConjunctive, StandFor}
use Rattle.meaning_laws.proofs.Choosing.{select_complete}

-- the copy firings of a run
pub copy_part : (schema : SchemaParts) (constants : List (List ℕ)) (proof : Proof) (log : List Firing) (end : Proof) → IsRun schema constants 2 proof log end → (copy : List Trigger) × IsFiringRun schema.rules (copy_state proof) copy (copy_state end) × (end.exposed ≡ proof.exposed)
copy_part schema constants proof [] end run = ([], ap (λ p. copy_state p) run, ap (λ (p : Proof). p.exposed) run)
copy_part schema constants proof (Base trigger ∷ log) end (order, rest) = absurd (omega arith)
copy_part schema constants proof (Expose number fact ∷ log) end (order, rest) = absurd (omega arith)
copy_part schema constants proof (Copy trigger ∷ log) end (order, (next, (rule, first, quiet, e), more)) =
    let (copy, run, same) = copy_part schema constants next log end more in
    let state : copy_state next ≡ fired (copy_state proof) trigger rule = ap (λ p. copy_state p) e in
    (trigger ∷ copy, (rule, first.active.trigger_is, subst (λ s. IsFiringRun schema.rules s copy (copy_state end)) state run), same ∙ ap (λ (p : Proof). p.exposed) e)

-- the exposures and the copy firings of a run
pub record Exposed (schema : SchemaParts) (constants : List (List ℕ)) (proof end : Proof) : Type 0 where
  pub exposures : List Exposure
  pub exposing : IsExposing schema constants proof.base proof.exposed exposures
  pub copy : List Trigger
  pub run : IsFiringRun schema.rules (record { facts = proof.copy ++ exposed_facts exposures; next = proof.next }) copy (copy_state end)
  pub all : end.exposed ≡ proof.exposed ++ exposed_facts exposures

none_exposed : (schema : SchemaParts) (constants : List (List ℕ)) (proof end : Proof) (copy : List Trigger) → IsFiringRun schema.rules (copy_state proof) copy (copy_state end) → end.exposed ≡ proof.exposed → Exposed schema constants proof end
none_exposed schema constants proof end copy run same =
    record {
      exposures = [];
      exposing = tt;
      copy = copy;
      run = subst (λ fs. IsFiringRun schema.rules (record { facts = fs; next = proof.next }) copy (copy_state end)) (sym (append-nil proof.copy)) run;
      all = same ∙ sym (append-nil proof.exposed);
    }

pub exposure_part : (schema : SchemaParts) (constants : List (List ℕ)) (proof : Proof) (log : List Firing) (end : Proof) → IsRun schema constants 1 proof log end → Exposed schema constants proof end
exposure_part schema constants proof [] end run = none_exposed schema constants proof end [] (ap (λ p. copy_state p) run) (ap (λ (p : Proof). p.exposed) run)
exposure_part schema constants proof (Base trigger ∷ log) end (order, rest) = absurd (omega arith)
exposure_part schema constants proof (Copy trigger ∷ log) end (order, rest) =
    let (copy, run, same) = copy_part schema constants proof (Copy trigger ∷ log) end (omega arith, rest) in
    none_exposed schema constants proof end copy run same
exposure_part schema constants proof (Expose number fact ∷ log) end (order, (next, (method, active, quiet, e), more)) =
    let rest = exposure_part schema constants (record proof { exposed = proof.exposed ++ fact ∷ []; copy = proof.copy ++ fact ∷ [] }) log end (subst (λ p. IsRun schema constants 1 p log end) e more) in
    record {
      exposures = record { method = method; fact = fact } ∷ rest.exposures;
      exposing = (record { of_base = active.of_base; new = active.new; of_schema = contains_got schema.methods number method active.named; of_relation = active.of_relation; inputs = active.inputs }, rest.exposing);
      copy = rest.copy;
      run = subst (λ fs. IsFiringRun schema.rules (record { facts = fs; next = proof.next }) rest.copy (copy_state end)) (append_assoc proof.copy (fact ∷ []) (exposed_facts rest.exposures)) rest.run;
      all = rest.all ∙ append_assoc proof.exposed (fact ∷ []) (exposed_facts rest.exposures);
    }

-- the three parts of a run
pub record Parts (schema : SchemaParts) (constants : List (List ℕ)) (proof end : Proof) : Type 0 where
  pub base : List Trigger
  pub middle : Proof
  pub base_run : IsFiringRun schema.rules (base_state proof) base (base_state middle)
  pub same_exposed : middle.exposed ≡ proof.exposed
  pub same_copy : middle.copy ≡ proof.copy
  pub rest : Exposed schema constants middle end

pub parts_of : (schema : SchemaParts) (constants : List (List ℕ)) (proof : Proof) (log : List Firing) (end : Proof) → IsRun schema constants 0 proof log end → Parts schema constants proof end
parts_of schema constants proof [] end run =
    record { base = []; middle = proof; base_run = refl; same_exposed = refl; same_copy = refl; rest = exposure_part schema constants proof [] end run }
parts_of schema constants proof (Base trigger ∷ log) end (order, (next, (rule, first, e), more)) =
    let rest = parts_of schema constants next log end more in
    record {
      base = trigger ∷ rest.base;
      middle = rest.middle;
      base_run = (rule, first.active.trigger_is, subst (λ s. IsFiringRun schema.rules s rest.base (base_state rest.middle)) (ap (λ p. base_state p) e) rest.base_run);
      same_exposed = rest.same_exposed ∙ ap (λ (p : Proof). p.exposed) e;
      same_copy = rest.same_copy ∙ ap (λ (p : Proof). p.copy) e;
      rest = rest.rest;
    }
parts_of schema constants proof (Expose number fact ∷ log) end (order, rest) =
    record { base = []; middle = proof; base_run = refl; same_exposed = refl; same_copy = refl; rest = exposure_part schema constants proof (Expose number fact ∷ log) end (omega arith, rest) }
parts_of schema constants proof (Copy trigger ∷ log) end (order, rest) =
    record { base = []; middle = proof; base_run = refl; same_exposed = refl; same_copy = refl; rest = exposure_part schema constants proof (Copy trigger ∷ log) end (omega arith, rest) }

-- a fact of the list has the label
abbrev HasLabel : List Ground → ℕ → Type 0
HasLabel facts k = (f : Ground) × Contains facts f × Contains f.vals (Label k)

-- a label below the next one that stands after a firing stood before it
pub fired_old : (rules : List Rule) (state : State) (trigger : Trigger) (rule : Rule) → IsTrigger rules state trigger rule → IsNumbered rule → (k : ℕ) → k < state.next → HasLabel (fired state trigger rule).facts k → HasLabel state.facts k
fired_old rules state trigger rule is numbered k l (f, c, i) =
    ⊎_elim (λ old. (f, old, i))
    (λ new. let (atom, among, e) = contains_mapped (ground (assigned trigger)) rule.head f new in
    let (term, has, same) = contains_mapped (value_of Const (assigned trigger)) atom.terms (Label k) (subst (λ (g : Ground). Contains g.vals (Label k)) (sym e) i) in
    each term same)
    (added_cases state.facts (map (ground (assigned trigger)) rule.head) f c)
  where
    fresh : (i : ℕ) → Label (trigger.fresh + i) ≡ Label k → ⊥
    fresh i e = let same : trigger.fresh + i ≡ k = cc in let up = is.fresh in omega arith

    each : (term : Term) → value_of Const (assigned trigger) term ≡ Label k → HasLabel state.facts k
    each (Said t) same = absurd (cc)
    each (Var x) same =
        ⊎_elim (λ below. let (b, within, occurs) = numbered.body x below in
        (ground (assigned trigger) b, is.body b within, subst (λ v. Contains (map (value_of Const (assigned trigger)) b.terms) v) same (contains_map (value_of Const (assigned trigger)) b.terms (Var x) occurs)))
        (λ above. let split : bound rule.body + (x - bound rule.body) ≡ x = omega arith in
        absurd (fresh (x - bound rule.body) (sym (fresh_is rules state trigger rule is (x - bound rule.body)) ∙ ap (assigned trigger) split ∙ same))) (cases_lt x (bound rule.body))

pub run_old : (rules : List Rule) (log : List Trigger) (state end : State) → AreNumbered rules → IsFiringRun rules state log end → (k : ℕ) → k < state.next → HasLabel end.facts k → HasLabel state.facts k
run_old rules [] state end numbered run k l has = subst (λ (s : State). HasLabel s.facts k) run has
run_old rules (trigger ∷ log) state end numbered (rule, is, more) k l has =
    let its = numbered rule (contains_got rules trigger.rule rule is.numbered) in
    fired_old rules state trigger rule is its k l (run_old rules log (fired state trigger rule) end numbered more k (let up = is.fresh in omega arith) has)

-- known values are columns or constants
order_of : (schema : SchemaParts) (constants : List (List ℕ)) (n : ℕ) (base exposed : List Ground) (columns : List ℕ) (exposures : List Exposure) → AreNamed constants n base → ((f : Ground) → Contains exposed f → Contains base f) → ((k : ℕ) → HasLabel exposed k → Contains columns k) → IsExposing schema constants base exposed exposures → AreInOrder constants columns exposures
order_of schema constants n base exposed columns [] named of_base have is = tt
order_of schema constants n base exposed columns (e ∷ exposures) named of_base have (first, rest) = (
  (λ p v i at. let (w, at', known) = first.inputs p i in input v (subst (λ u. IsKnownValue constants exposed u) (some_injective w v (sym at' ∙ at)) known)),
  order_of schema constants n base (exposed ++ e.fact ∷ []) (columns_after columns e.fact.vals) exposures named
      (λ f c. ⊎_elim (λ j. of_base f j) (λ j. subst (λ g. Contains base g) j first.of_base) (Contains-push_cases exposed e.fact f c))
      (λ k (f, c, i). ⊎_elim (λ j. columns_kept columns e.fact.vals k (have k (f, j, i))) (λ j. columns_have columns e.fact.vals k (subst (λ (g : Ground). Contains g.vals (Label k)) (sym j) i)) (Contains-push_cases exposed e.fact f c)) rest,
)
  where
    input : (v : Val) → IsKnownValue constants exposed v → IsInput constants columns v
    input (Const t) k = ⊎_elim (λ (c, among, e). let same : c ≡ t = const_is e in subst (λ u. Contains constants u) same among) (λ (f, c, i). named f (Const t) (of_base f c) i) k
      where
        const_is : {c t : List ℕ} → Const t ≡ Const c → c ≡ t
        const_is {c} {t} e = cc
    input (Label j) k = ⊎_elim (λ (c, among, e). absurd (clash e)) (λ (f, c, i). have j (f, c, i)) k
      where
        clash : {c : List ℕ} → Label j ≡ Const c → ⊥
        clash {c} e = cc

-- what the exposures of a list say of each
exposing_each : (schema : SchemaParts) (constants : List (List ℕ)) (base exposed : List Ground) (exposures : List Exposure) → IsExposing schema constants base exposed exposures → (e : Exposure) → Contains exposures e → Contains base e.fact × Contains schema.methods e.method × (e.method.rel ≡ e.fact.rel)
exposing_each schema constants base exposed [] is e c = absurd (omega arith)
exposing_each schema constants base exposed (first ∷ exposures) (its, rest) e c =
    ⊎_elim (λ same. subst (λ (x : Exposure). Contains base x.fact × Contains schema.methods x.method × (x.method.rel ≡ x.fact.rel)) same (its.of_base, its.of_schema, its.of_relation))
    (λ i. exposing_each schema constants base (exposed ++ first.fact ∷ []) exposures rest e i) (contains_cases first exposures e c)

module _ (schema : SchemaParts) (constants : List (List ℕ)) (query goal : Query) (well : IsWellFormed schema) (rules : RulesFit schema constants) (fits : QueryFits schema query) (goal_fits : QueryFits schema goal) (have : QueryHasConstants constants query)
    (base : List Trigger) (middle : State) (exposures : List Exposure) (copy : List Trigger) (end : State) (base_run : IsFiringRun schema.rules (opening_state query) base middle) (exposing : IsExposing schema constants middle.facts [] exposures)
    (copy_run : IsFiringRun schema.rules (record { facts = exposed_facts exposures; next = middle.next }) copy end) (match : IsQueryAnswer Const (GroundsOf end.facts) goal (frozen_head query)) where
  opened : IsKept schema constants query (opening query)
  opened = kept_opening schema constants query fits have

  kept : Keeps schema constants (opening_state query) middle
  kept = run_keeps schema constants base (opening_state query) middle rules opened.base_named opened.base_fits base_run

  derivation : IsDerivation schema query base middle exposures copy end
  derivation = record {
    opening = fits.variables;
    base_run = base_run;
    copy_run = copy_run;
    of_schema = λ e c. let its = exposing_each schema constants middle.facts [] exposures exposing e c in (its.1, its.2);
    of_base = λ e c. (exposing_each schema constants middle.facts [] exposures exposing e c).0;
  }

  goal_label : (k : ℕ) → Contains (frozen_head query) (Label k) → HasLabel end.facts k
  goal_label k c =
      let (term, among, same) = contains_mapped (value_of Const match.0) goal.head (Label k) (subst (λ vs. Contains vs (Label k)) match.2 c) in
      each term among same
    where
      each : (term : Term) → Contains goal.head term → value_of Const match.0 term ≡ Label k → HasLabel end.facts k
      each (Said t) among same = absurd (cc)
      each (Var x) among same =
          let (atom, within, occurs) = goal_fits.head x among in
          (ground match.0 atom, match.1 atom within, subst (λ v. Contains (map (value_of Const match.0) atom.terms) v) same (contains_map (value_of Const match.0) atom.terms (Var x) occurs))

  head_known : IsHeadKnown exposures (frozen_head query)
  head_known k c =
      let low : k < query.variables = opened.head_named (Label k) c in
      let (f, i, l) = run_old schema.rules copy (record { facts = exposed_facts exposures; next = middle.next }) end rules.numbered copy_run k (let on = kept.next in omega arith) (goal_label k c) in
      let (e, among, same) = contains_mapped (λ (e : Exposure). e.fact) exposures f i in
      (e, among, subst (λ (g : Ground). Contains g.vals (Label k)) (sym same) l)

  lawful : IsLawfulBranch schema constants (branch_of exposures (frozen_head query))
  lawful =
      extract_lawful schema constants exposures (frozen_head query)
      (λ e c. let its = exposing_each schema constants middle.facts [] exposures exposing e c in
      (its.1, fits_alike schema e.fact.rel e.method.rel e.fact.vals e.fact.vals (sym its.2) refl (kept.fit e.fact its.0)))
      (λ e t c i. kept.named e.fact (Const t) (exposing_each schema constants middle.facts [] exposures exposing e c).0 i)
      (order_of schema constants middle.next middle.facts [] [] exposures kept.named (λ f c. absurd (none f c)) (λ k (f, c, i). absurd (none f c)) exposing)
      (λ t c. opened.head_named (Const t) c)
      (λ k c. let (e, among, l) = head_known k c in all_have [] exposures e k among l)
    where
      none : (f : Ground) → Contains [] f → ⊥
      none f c = omega arith

  pub extracted : IsLawfulBranch schema constants (branch_of exposures (frozen_head query))
      × ((instance : List Fact) (row : List (List ℕ)) → Meets instance schema → IsBranchRow schema (branch_of exposures (frozen_head query)) instance row → AnswersQuery goal instance row)
      × ((instance : List Fact) (row : List (List ℕ)) → Meets instance schema → AnswersQuery query instance row → IsBranchRow schema (branch_of exposures (frozen_head query)) instance row)
  extracted = (
    lawful,
    (λ instance row meets rows. extract_sound schema well rules.numbered query base middle exposures copy end derivation instance goal (frozen_head query) row meets head_known match rows),
    (λ instance row meets answer. extract_complete schema well rules.numbered query base middle exposures copy end derivation instance row meets head_known (λ k c. opened.head_named (Label k) c) answer),
  )

-- what a run that reaches a goal gives
pub run_extracts : (schema : SchemaParts) (constants : List (List ℕ)) (query goal : Query) (log : List Firing) (proof : Proof) → IsWellFormed schema → RulesFit schema constants → QueryFits schema query → QueryFits schema goal → QueryHasConstants constants query →
    IsRun schema constants 0 (opening query) log proof → IsQueryAnswer Const (GroundsOf proof.copy) goal (frozen_head query) →
    (branch : Branch) × IsLawfulBranch schema constants branch
    × ((instance : List Fact) (row : List (List ℕ)) → Meets instance schema → IsBranchRow schema branch instance row → AnswersQuery goal instance row)
    × ((instance : List Fact) (row : List (List ℕ)) → Meets instance schema → AnswersQuery query instance row → IsBranchRow schema branch instance row)
    × (length branch.output ≡ length query.head)
run_extracts schema constants query goal log proof well rules fits goal_fits have run match =
    let parts = parts_of schema constants (opening query) log proof run in
    let rest = parts.rest in
    let exposing : IsExposing schema constants parts.middle.base [] rest.exposures = subst (λ gs. IsExposing schema constants parts.middle.base gs rest.exposures) parts.same_exposed rest.exposing in
    let copied : IsFiringRun schema.rules (record { facts = exposed_facts rest.exposures; next = parts.middle.next }) rest.copy (copy_state proof) =
    subst (λ gs. IsFiringRun schema.rules (record { facts = gs ++ exposed_facts rest.exposures; next = parts.middle.next }) rest.copy (copy_state proof)) parts.same_copy rest.run in
    let got = extracted schema constants query goal well rules fits goal_fits have parts.base (base_state parts.middle) rest.exposures rest.copy (copy_state proof) parts.base_run exposing copied match in
    (branch_of rest.exposures (frozen_head query), got.0, got.1, got.2, length-map (frozen_head query) (out_of (all_columns [] rest.exposures)) ∙ length-map query.head (value_of Const Label))

-- a run of a query that reaches a goal gives a branch that is read for it
pub read_from_run : (schema : SchemaParts) (constants : List (List ℕ)) (queries : List Query) (query : Query) (log : List Firing) (proof : Proof) → IsWellFormed schema → RulesFit schema constants → QueryFits schema query → ((q : Query) → Contains queries q → QueryFits schema q) → QueryHasConstants constants query →
    IsRun schema constants 0 (opening query) log proof → HasGoal queries proof (frozen_head query) → (branch : Branch) × IsQueryRival schema constants queries query branch × (length branch.output ≡ length query.head)
read_from_run schema constants queries query log proof well rules fits all have run (goal, among, match) =
    let (branch, lawful, sound, complete, long) = run_extracts schema constants query goal log proof well rules fits (all goal among) have run match in (
      branch,
      record {
        lawful = lawful;
        sound = λ facts row model rows. (goal, among, sound facts row model.meets rows);
        complete = λ facts row model answer. complete facts row model.meets answer;
      },
      long,
    )

-- The same, said of the statement and the select.
pub branch_from_run : (schema : SchemaParts) (constants : List (List ℕ)) (statement : Statement) (queries : List Query) (select : Select) (query : Query) (log : List Firing) (proof : Proof) →
    IsWellFormed schema → RulesFit schema constants → QueryFits schema query → ((q : Query) → Contains queries q → QueryFits schema q) → QueryHasConstants constants query →
    StandFor schema queries statement → SelectFits schema select → IsConjunctive schema select query →
    IsRun schema constants 0 (opening query) log proof → HasGoal queries proof (frozen_head query) →
    (branch : Branch) × IsRival schema constants statement select branch × (length branch.output ≡ length select.items)
branch_from_run schema constants statement queries select query log proof well rules fits all have stand select_fits is run goal =
    let (branch, its, long) = read_from_run schema constants queries query log proof well rules fits all have run goal in (
      branch,
      record {
        lawful = its.lawful;
        sound = λ facts row model rows. let (found, among, answer) = its.sound facts row model rows in stand.sound facts row found model.fits among answer;
        complete = λ facts row model answer. its.complete facts row model (select_complete schema select query is facts row select_fits model.fits answer);
      },
      long ∙ ap length is.head ∙ length-map select.items (term_of query.atoms),
    )
