-- What is extracted: the branch of the marked exposures.
use Rattle.std.proofs.Common.{◌≡◌, ℕ, ◌≤◌, ◌^◌, List, [], Bool, length, get_or, map, take, Some, refl, sym, ap, ◌∙◌, subst, arith}
use Rattle.std.specs.Prelude.{Contains, IsPermutation, slice_get}
use Rattle.std.specs.List.{AllZip}
use Rattle.std.proofs.lemmas.List.{length-map}
use Rattle.std.proofs.lemmas.List.Sorted.{Contains-permutation, IsPermutation-map, length_permutation}
use Rattle.std.proofs.lemmas.Option.{slice_get_within}
use Rattle.std.proofs.lemmas.Slice.Zip.{AllZip-long}
use Rattle.lists.proofs.Members.{some_injective, contains_got, contains_map, contains_mapped}
use Rattle.lists.proofs.Places.{got_indexed}
use Rattle.meaning.specs.declared.types.SchemaParts.{SchemaParts}
use Rattle.meaning.specs.declared.types.Query.{Query}
use Rattle.meaning.specs.declared.types.Branch.{Branch}
use Rattle.meaning.specs.declared.types.Atom.{Atom}
use Rattle.meaning.specs.declared.types.Ground.{Ground}
use Rattle.meaning.specs.declared.types.Trigger.{Trigger}
use Rattle.meaning.specs.declared.types.Firing.{Firing}
use Rattle.meaning.specs.declared.types.Val.{Val}
use Rattle.meaning.specs.declared.types.Val.TheVariants.{Const, Label}
use Rattle.meaning.specs.Values.{Value}
use Rattle.meaning.specs.Matching.{value_of, AreFacts, IsQueryAnswer, GroundsOf}
use Rattle.meaning.specs.Triggers.{State, IsFiringRun, ground}
use Rattle.meaning.specs.Runs.{base_state, copy_state, IsRun, opening, opening_state, frozen_head}
use Rattle.meaning.specs.Naming.{AreNamed}
use Rattle.meaning.specs.Fitting.{RulesFit, QueryFits}
use Rattle.meaning.specs.Costs.{IsCost}
use Rattle.meaning.specs.Extract.{Exposure, exposed_facts, exposures_cost, IsExposing, all_columns, out_of, branch_of}
use Rattle.meaning_laws.proofs.Decided.{extracted}
use Rattle.meaning_laws.proofs.Keeping.{Keeps, run_keeps}
use Rattle.meaning_laws.proofs.Kept.{kept_opening}
use Rattle.meaning_laws.proofs.Costing.{branch_cost}
use Rattle.homomorphism.specs.Bindings.{at}
use Rattle.access_schema.specs.declared.schema.Schema.{Schema}
use Rattle.access_schema.specs.Meaning.{meaning_of}
use Rattle.access_schema.proofs.Keeping.{well_formed, rules_fit}
use Rattle.rule_pass.specs.declared.pass.TheConstants.{MOST_FIRINGS}
use Rattle.accessible_copy.specs.Proving.{Proving, IsProofOf, firings_of, log_of}
use Rattle.accessible_copy.specs.Goals.{IsGoal, IsHeadMatch}
use Rattle.accessible_copy.proofs.Writing.{written_run}
use Rattle.plan_extract.specs.Lent.{values_in}
use Rattle.plan_extract.specs.Branches.{IsBranchFor, IsProofFor}
use Rattle.plan_extract.specs.Resting.{RestsOnFact, RestsOn}
use Rattle.plan_extract.specs.Trimmed.{IsShown, picked, IsTrimmed, IsTrimmedBranch}
use Rattle.plan_extract.specs.Arranged.{AreKnown, IsArrangedBranch}
use Rattle.plan_extract.specs.Passes.{AreWanted, AreMarked}
use Rattle.plan_extract.proofs.AnyOrder.{known_exposing, exposing_any_order, same_cost}
use Rattle.plan_extract.proofs.Shown.{few_exposed, same_shown}
use Rattle.plan_extract.proofs.Read.{Derives, derives, exposing_each, narrow_facts, values_bound, schema_narrow, steps_long}
use Rattle.plan_extract.proofs.Marked.{exposing_picked, picked_facts, picked_back, picked_cost, length-picked, rests_wider}
use Rattle.accessible_copy.proofs.Shown.{shown_in, shown_of}

-- ---- what the two passes come to

module _ (schema : SchemaParts) (proof : Proving) (is : IsProofOf schema proof) (lent : List Exposure) (shown : AllZip (IsShown schema) proof.exposed lent)
    (goals wanted : List Ground) (are : AreWanted schema proof goals wanted) (marks : List Bool) (marked : AreMarked lent wanted marks) where
  abbrev log : List Firing
  log = firings_of (take are.left proof.entries)

  run : IsRun schema proof.constants 0 proof.start log are.back.state
  run = written_run schema proof.constants 0 proof.start (take are.left proof.entries) are.back.state are.back.front

  pub parts : Derives schema proof.constants proof.start are.back.state (firings_of (take are.left proof.entries))
  parts = derives schema proof.constants proof.start (firings_of (take are.left proof.entries)) are.back.state run is.none_exposed is.none_copied

  state_is : copy_state are.back.state ≡ record { facts = exposed_facts parts.exposures; next = parts.middle.next }
  state_is = subst (λ copy. IsFiringRun schema.rules (record { facts = exposed_facts parts.exposures; next = parts.middle.next }) copy (copy_state are.back.state)) (parts.early are.early) parts.copy_run

  lent_is : parts.exposures ≡ lent
  lent_is =
      let same : proof.exposed ≡ shown_of (firings_of (take are.left proof.entries)) = is.exposed ∙ sym are.back.exposed ∙ shown_in (take are.left proof.entries) in
      same_shown schema (shown_of (firings_of (take are.left proof.entries))) parts.exposures lent parts.shown (subst (λ list. AllZip (IsShown schema) list lent) same shown)

  pub base_is : parts.middle.facts ≡ proof.end.base
  base_is = sym parts.same_base ∙ are.back.base

  pub lent_exposing : IsExposing schema proof.constants parts.middle.facts [] lent
  lent_exposing = subst (λ list. IsExposing schema proof.constants parts.middle.facts [] list) lent_is parts.exposing

  pub kept_exposing : (n : ℕ) → AreNamed proof.constants n parts.middle.facts → IsExposing schema proof.constants parts.middle.facts [] (picked lent marks)
  kept_exposing n named = exposing_picked schema proof.constants n parts.middle.facts named lent marks marked.closed lent_exposing

  -- from the facts of exposures that have the wanted ones firings lead to the goal facts
  pub served : (list : List Exposure) → ((fact : Ground) → Contains wanted fact → Contains (exposed_facts lent) fact → Contains (exposed_facts list) fact) →
      (copy : List Trigger) × (last : State) × IsFiringRun schema.rules (record { facts = exposed_facts list; next = parts.middle.next }) copy last
      × ((fact : Ground) → Contains goals fact → Contains last.facts fact)
  served list have =
      let next : are.back.state.next ≡ parts.middle.next = ap (λ (s : State). s.next) state_is in
      let facts : are.back.state.copy ≡ exposed_facts lent = ap (λ (s : State). s.facts) state_is ∙ ap exposed_facts lent_is in
      are.back.serves (record { facts = exposed_facts list; next = parts.middle.next }) (omega arith)
      (λ fact want there. have fact want (subst (λ list. Contains list fact) facts there))

  pub kept_run : (copy : List Trigger) × (last : State) × IsFiringRun schema.rules (record { facts = exposed_facts (picked lent marks); next = parts.middle.next }) copy last
      × ((fact : Ground) → Contains goals fact → Contains last.facts fact)
  kept_run = served (picked lent marks) (picked_facts lent wanted marks marked.held)

  pub kept_rests : (e : Exposure) → Contains (picked lent marks) e → RestsOn (RestsOnFact schema proof goals) lent e
  kept_rests e among =
      let (k, got, on) = picked_back lent marks e among in
      rests_wider (λ fact. Contains wanted fact) (RestsOnFact schema proof goals) are.back.rests lent e (marked.held.rests k e got on)

-- ---- the exposures that are kept

module _ (schema : Schema) (proof : Proving) (head : List Val) (have : (c : Value) → Contains schema.constants c → Contains proof.constants c)
    (lent : List Exposure) (shown : AllZip (IsShown (meaning_of schema)) proof.exposed lent) (wanted : List Ground) (marks : List Bool) (marked : AreMarked lent wanted marks)
    (query : Query) (its : IsProofFor (meaning_of schema) proof head query) (goals : List Ground) (are : AreWanted (meaning_of schema) proof goals wanted) where
  abbrev its_parts : Derives (meaning_of schema) proof.constants proof.start are.back.state (firings_of (take are.left proof.entries))
  its_parts = parts (meaning_of schema) proof its.run lent shown goals wanted are marks marked

  base_run : IsFiringRun schema.rules (opening_state query) its_parts.base its_parts.middle
  base_run = subst (λ state. IsFiringRun schema.rules state its_parts.base its_parts.middle) (ap base_state its.begun) its_parts.base_run

  keeps : Keeps (meaning_of schema) proof.constants (opening_state query) its_parts.middle
  keeps = let opened = kept_opening (meaning_of schema) proof.constants query its.fits its.constants in run_keeps (meaning_of schema) proof.constants its_parts.base (opening_state query) its_parts.middle (rules_fit schema proof.constants have) opened.base_named opened.base_fits base_run

  order : IsExposing (meaning_of schema) proof.constants its_parts.middle.facts [] (picked lent marks)
  order = kept_exposing (meaning_of schema) proof its.run lent shown goals wanted are marks marked its_parts.middle.next keeps.named

  -- the labels at the inputs of the kept exposures are known
  pub kept_known : AreKnown [] (picked lent marks)
  kept_known = known_exposing (meaning_of schema) proof.constants its_parts.middle.facts [] [] (picked lent marks) (λ fact label c. absurd (omega arith)) order

  -- so they are possible in each order in which those are known
  ordered_exposing : (list : List Exposure) → IsPermutation (picked lent marks) list → AreKnown [] list → IsExposing (meaning_of schema) proof.constants its_parts.middle.facts [] list
  ordered_exposing list same known = exposing_any_order (meaning_of schema) proof.constants its_parts.middle.next its_parts.middle.facts keeps.named (picked lent marks) list same order known

  -- and their facts are those of the kept ones
  ordered_facts : (list : List Exposure) → IsPermutation (picked lent marks) list → (fact : Ground) → Contains wanted fact → Contains (exposed_facts lent) fact → Contains (exposed_facts list) fact
  ordered_facts list same fact want there =
      Contains-permutation (exposed_facts (picked lent marks)) (exposed_facts list) fact (IsPermutation-map (λ (e : Exposure). e.fact) (picked lent marks) list same) (picked_facts lent wanted marks marked.held fact want there)

-- ---- the branch

module _ (schema : Schema) (proof : Proving) (queries : List Query) (head : List Val) (number : ℕ) (values : List Val)
    (have : (c : Value) → Contains schema.constants c → Contains proof.constants c) (fits : (goal : Query) → Contains queries goal → QueryFits (meaning_of schema) goal)
    (found : IsGoal queries proof.end.copy head number values)
    (lent : List Exposure) (shown : AllZip (IsShown (meaning_of schema)) proof.exposed lent)
    (wanted : List Ground) (marks : List Bool) (marked : AreMarked lent wanted marks) where
  rules : RulesFit (meaning_of schema) proof.constants
  rules = rules_fit schema proof.constants have

  module _ (query : Query) (its : IsProofFor (meaning_of schema) proof head query) (goal : Query) (got : slice_get queries number ≡ Some goal)
      (are : AreWanted (meaning_of schema) proof (map (ground (at values)) goal.atoms) wanted) where
    abbrev goals : List Ground
    goals = map (ground (at values)) goal.atoms

    abbrev kept_order : IsExposing (meaning_of schema) proof.constants (its_parts schema proof head have lent shown wanted marks marked query its (map (ground (at values)) goal.atoms) are).middle.facts [] (picked lent marks)
    kept_order = order schema proof head have lent shown wanted marks marked query its (map (ground (at values)) goal.atoms) are

    abbrev named_base : Keeps (meaning_of schema) proof.constants (opening_state query) (its_parts schema proof head have lent shown wanted marks marked query its (map (ground (at values)) goal.atoms) are).middle
    named_base = keeps schema proof head have lent shown wanted marks marked query its (map (ground (at values)) goal.atoms) are

    abbrev goal_parts : Derives (meaning_of schema) proof.constants proof.start are.back.state (firings_of (take are.left proof.entries))
    goal_parts = parts (meaning_of schema) proof its.run lent shown (map (ground (at values)) goal.atoms) wanted are marks marked

    goal_is : found.0 ≡ goal
    goal_is = some_injective found.0 goal (sym found.1 ∙ got)

    matched : IsHeadMatch proof.end.copy goal head values
    matched = subst (λ q. IsHeadMatch proof.end.copy q head values) goal_is found.2

    last_match : (last : State) → ((fact : Ground) → Contains (map (ground (at values)) goal.atoms) fact → Contains last.facts fact) → IsHeadMatch last.facts goal head values
    last_match last leads = record {
      width = matched.width;
      facts_are = λ atom among. leads (ground (at values) atom) (contains_map (ground (at values)) goal.atoms atom among);
      head_is = matched.head_is;
    }

    -- exposures of the proof are of base facts
    at_base : (list : List Exposure) → IsExposing (meaning_of schema) proof.constants goal_parts.middle.facts [] list → IsExposing (meaning_of schema) proof.constants proof.end.base [] list
    at_base list is = subst (λ facts. IsExposing (meaning_of schema) proof.constants facts [] list) (base_is (meaning_of schema) proof its.run lent shown goals wanted are marks marked) is

    pub extracted_trims : IsTrimmed (meaning_of schema) proof lent goal head values (picked lent marks)
    extracted_trims =
        let (copy, last, runs, leads) = kept_run (meaning_of schema) proof its.run lent shown goals wanted are marks marked in
        record {
          marks = marks;
          part = refl;
          order = at_base (picked lent marks) kept_order;
          next = goal_parts.middle.next;
          labels = λ fact k among has.
              let (e, there, same) = contains_mapped (λ (e : Exposure). e.fact) (picked lent marks) fact among in
              named_base.named fact (Label k) (subst (Contains goal_parts.middle.facts) same (exposing_each (meaning_of schema) proof.constants goal_parts.middle.facts [] (picked lent marks) kept_order e there).0) has;
          copy = copy;
          last = last;
          run = runs;
          match = last_match last leads;
          rests = kept_rests (meaning_of schema) proof its.run lent shown goals wanted are marks marked;
        }

    -- the branch of exposures that are possible one after another and have the wanted facts
    read_branch : (list : List Exposure) → IsExposing (meaning_of schema) proof.constants goal_parts.middle.facts [] list →
        ((fact : Ground) → Contains wanted fact → Contains (exposed_facts lent) fact → Contains (exposed_facts list) fact) → IsBranchFor (meaning_of schema) proof.constants query goal (branch_of list head)
    read_branch list exposing wants =
        let (copy, last, runs, leads) = served (meaning_of schema) proof its.run lent shown goals wanted are marks marked list wants in
        let match = last_match last leads in
        let answer : IsQueryAnswer Const (GroundsOf last.facts) goal (frozen_head query) = (at values, match.facts_are, sym its.head_is ∙ match.head_is) in
        let is = extracted (meaning_of schema) proof.constants query goal (well_formed schema) rules its.fits (fits goal (contains_got queries number goal got)) its.constants
        goal_parts.base goal_parts.middle list copy last (base_run schema proof head have lent shown wanted marks marked query its (map (ground (at values)) goal.atoms) are) exposing runs answer in
        subst (λ vals. IsBranchFor (meaning_of schema) proof.constants query goal (branch_of list vals)) (sym its.head_is)
        (record {
          lawful = is.0;
          sound = is.1;
          complete = is.2;
          width = length-map (frozen_head query) (out_of (all_columns [] list)) ∙ length-map query.head (value_of Const Label);
        })

    pub extracted_branch : IsBranchFor (meaning_of schema) proof.constants query goal (branch_of (picked lent marks) head)
    extracted_branch = read_branch (picked lent marks) kept_order (picked_facts lent wanted marks marked.held)

    pub arranged_branch : (list : List Exposure) → IsPermutation (picked lent marks) list → AreKnown [] list → IsBranchFor (meaning_of schema) proof.constants query goal (branch_of list head)
    arranged_branch list same known = read_branch list (ordered_exposing schema proof head have lent shown wanted marks marked query its (map (ground (at values)) goal.atoms) are list same known) (ordered_facts schema proof head have lent shown wanted marks marked query its (map (ground (at values)) goal.atoms) are list same)

    read_cost : (list : List Exposure) → IsExposing (meaning_of schema) proof.constants goal_parts.middle.facts [] list → IsCost (meaning_of schema) (branch_of list head) (exposures_cost list)
    read_cost list is = branch_cost (meaning_of schema) list head (λ e c. (exposing_each (meaning_of schema) proof.constants goal_parts.middle.facts [] list is e c).1)

    pub extracted_trimmed : (branch : Branch) → branch ≡ branch_of (picked lent marks) head → IsTrimmedBranch (meaning_of schema) proof queries head number values branch
    extracted_trimmed branch read = record {
      goal = goal;
      of_number = got;
      exposures = lent;
      shown = shown;
      kept = picked lent marks;
      trimmed = extracted_trims;
      read = read;
      cost = subst (λ (b : Branch). IsCost (meaning_of schema) b (exposures_cost (picked lent marks))) (sym read) (read_cost (picked lent marks) kept_order);
      cheap = picked_cost lent marks;
    }

    pub extracted_arranged : (list : List Exposure) → IsPermutation (picked lent marks) list → AreKnown [] list → (branch : Branch) → branch ≡ branch_of list head → IsArrangedBranch (meaning_of schema) proof queries head number values branch
    extracted_arranged list same known branch read = record {
      goal = goal;
      of_number = got;
      exposures = lent;
      shown = shown;
      kept = picked lent marks;
      trimmed = extracted_trims;
      ordered = list;
      same = same;
      order = at_base list (ordered_exposing schema proof head have lent shown wanted marks marked query its (map (ground (at values)) goal.atoms) are list same known);
      read = read;
      cost = subst (λ (b : Branch). IsCost (meaning_of schema) b (exposures_cost (picked lent marks))) (sym read)
          (subst (IsCost (meaning_of schema) (branch_of list head)) (same_cost (picked lent marks) list same) (read_cost list (ordered_exposing schema proof head have lent shown wanted marks marked query its (map (ground (at values)) goal.atoms) are list same known)));
      cheap = picked_cost lent marks;
    }

  -- the branch of the goal with that number, where the goal facts are those of the match found
  pub branch_at : (query : Query) → IsProofFor (meaning_of schema) proof head query → (goal : Query) → slice_get queries number ≡ Some goal →
      AreWanted (meaning_of schema) proof (map (ground (at values)) found.0.atoms) wanted → IsBranchFor (meaning_of schema) proof.constants query goal (branch_of (picked lent marks) head)
  branch_at query its goal got are =
      let same : found.0 ≡ goal = some_injective found.0 goal (sym found.1 ∙ got) in
      extracted_branch query its goal got (subst (λ (q : Query). AreWanted (meaning_of schema) proof (map (ground (at values)) q.atoms) wanted) same are)

  pub arranged_at : (list : List Exposure) → IsPermutation (picked lent marks) list → AreKnown [] list → (query : Query) → IsProofFor (meaning_of schema) proof head query → (goal : Query) → slice_get queries number ≡ Some goal →
      AreWanted (meaning_of schema) proof (map (ground (at values)) found.0.atoms) wanted → IsBranchFor (meaning_of schema) proof.constants query goal (branch_of list head)
  arranged_at list moved known query its goal got are =
      let same : found.0 ≡ goal = some_injective found.0 goal (sym found.1 ∙ got) in
      arranged_branch query its goal got (subst (λ (q : Query). AreWanted (meaning_of schema) proof (map (ground (at values)) q.atoms) wanted) same are) list moved known

-- ---- numbers

-- what is read at a number
pub indexed : {X : Type 0} (xs ys : List X) (n : ℕ) (x y : X) → ys ≡ xs → slice_get xs n ≡ Some x → y ≡ get_or ys n y → y ≡ x
indexed xs ys n x y same got is =
    let low = slice_get_within xs n x got in
    some_injective y x (sym (got_indexed xs n y low (subst (λ zs. y ≡ get_or zs n y) same is)) ∙ got)

-- the facts of a match, as its atoms are read at its values
pub atoms_are : (queries asked : List Query) (number : ℕ) (goal query : Query) (vals values : List Val) (atoms : List Atom) (facts : List Ground) → asked ≡ queries → slice_get queries number ≡ Some goal → query ≡ get_or asked number query →
    values ≡ vals → atoms ≡ query.atoms → facts ≡ map (ground (at values)) atoms → facts ≡ map (ground (at vals)) goal.atoms
atoms_are queries asked number goal query vals values atoms facts same got is values_are are made =
    made ∙ ap (λ (list : List Val). map (ground (at list)) atoms) values_are
    ∙ ap (map (ground (at vals))) (are ∙ ap (λ (q : Query). q.atoms) (indexed queries asked number goal query same got is))

-- they are among the facts that are matched
pub match_there : (facts made : List Ground) (goal : Query) (vals : List Val) → AreFacts Const (GroundsOf facts) (at vals) goal.atoms → made ≡ map (ground (at vals)) goal.atoms → (fact : Ground) → Contains made fact → Contains facts fact
match_there facts made goal vals are is fact among =
    let (atom, within, same) = contains_mapped (ground (at vals)) goal.atoms fact (subst (λ (list : List Ground). Contains list fact) is among) in
    subst (Contains facts) same (are atom within)

pub few_kept : (schema : SchemaParts) (proof : Proving) → IsProofOf schema proof → (lent : List Exposure) → AllZip (IsShown schema) proof.exposed lent → (marks : List Bool) → length (picked lent marks) ≤ length proof.entries
few_kept schema proof is lent shown marks =
    let part = length-picked lent marks in
    let long = AllZip-long (IsShown schema) proof.exposed lent shown in
    let few = few_exposed schema proof is in
    omega arith

pub few_steps : (schema : SchemaParts) (proof : Proving) → IsProofOf schema proof → (lent : List Exposure) → AllZip (IsShown schema) proof.exposed lent → (marks : List Bool) (list : List Exposure) →
    IsPermutation (picked lent marks) list → (head : List Val) (branch : Branch) → branch ≡ branch_of list head → length branch.steps ≤ length proof.entries
few_steps schema proof is lent shown marks list moved head branch read =
    let steps = steps_long [] list in
    let long = length_permutation (picked lent marks) list moved in
    let kept = few_kept schema proof is lent shown marks in
    let same = ap (λ (b : Branch). length b.steps) read in
    omega arith

pub few_values : (schema : Schema) (proof : Proving) (head : List Val) (query : Query) → IsProofFor (meaning_of schema) proof head query → ((c : Value) → Contains schema.constants c → Contains proof.constants c) → length proof.entries ≤ MOST_FIRINGS →
    (lent : List Exposure) → AllZip (IsShown (meaning_of schema)) proof.exposed lent → (marks : List Bool) → values_in (picked lent marks) ≤ 2 ^ 32
few_values schema proof head query its have few lent shown marks =
    let run : IsRun (meaning_of schema) proof.constants 0 (opening query) (log_of proof) proof.end =
    subst (λ start. IsRun (meaning_of schema) proof.constants 0 start (log_of proof) proof.end) its.begun (written_run (meaning_of schema) proof.constants 0 proof.start proof.entries proof.end its.run.written) in
    let parts = derives (meaning_of schema) proof.constants (opening query) (log_of proof) proof.end run refl refl in
    let same : parts.exposures ≡ lent = same_shown (meaning_of schema) (shown_of (log_of proof)) parts.exposures lent parts.shown (subst (λ list. AllZip (IsShown (meaning_of schema)) list lent) (its.run.exposed ∙ shown_in proof.entries) shown) in
    let narrow = narrow_facts (meaning_of schema) proof.constants query (log_of proof) proof.end (rules_fit schema proof.constants have) its.fits its.constants parts (schema_narrow schema) in
    let all = values_bound (picked lent marks) (λ e c. let (k, got, on) = picked_back lent marks e c in narrow e (subst (λ list. Contains list e) (sym same) (contains_got lent k e got))) in
    let kept = few_kept (meaning_of schema) proof its.run lent shown marks in
    omega arith
