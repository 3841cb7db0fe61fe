-- What a search over the space of a query's base firings says of the query's branches.
use Rattle.std.proofs.Common.{◌≡◌, ◌⊎◌, ℕ, ◌+◌, ◌<◌, ◌≤◌, List, [], Bool, length, refl, sym, ap, ◌∙◌, subst, ⊎_elim, arith}
use Rattle.std.specs.Prelude.{Contains}
use Rattle.std.specs.List.{AllZip}
use Rattle.meaning.specs.declared.types.SchemaParts.{SchemaParts}
use Rattle.meaning.specs.declared.types.Query.{Query}
use Rattle.meaning.specs.declared.types.Branch.{Branch}
use Rattle.meaning.specs.declared.types.Firing.{Firing}
use Rattle.meaning.specs.declared.types.Val.{Val}
use Rattle.meaning.specs.Values.{Value}
use Rattle.meaning.specs.Sorts.{AtomsAreSorted}
use Rattle.meaning.specs.Plans.{IsWellFormed}
use Rattle.meaning.specs.Triggers.{IsFiringRun, IsQuiet}
use Rattle.meaning.specs.Runs.{Proof, IsRun, IsBaseRun, base_state, opening, frozen_head}
use Rattle.meaning.specs.Costs.{IsCost}
use Rattle.meaning.specs.Fitting.{Fit, RulesFit, QueryFits, QueryHasConstants}
use Rattle.meaning.specs.Extract.{IsBase, IsExposing, exposed_facts, exposures_cost}
use Rattle.meaning_laws.specs.Rests.{HasGoalOver, new_labels}
use Rattle.meaning.proofs.Steps.{cost_once}
use Rattle.meaning_laws.proofs.Carrying.{run_fires}
use Rattle.integer_laws.specs.Sorted.{AreSortedGrounds, AreSortedRules}
use Rattle.integer_laws.proofs.Firings.{run_sorted, opening_sorted}
use Rattle.integer_laws.proofs.Possible.{rival_exposes_possible}
use Rattle.access_schema.specs.Meaning.{meaning_of}
use Rattle.access_schema.proofs.Keeping.{well_formed, rules_fit, rules_sorted}
use Rattle.rule_pass.specs.declared.pass.TheConstants.{MOST_FIRINGS}
use Rattle.rule_pass.specs.Levels.{AreShort}
use Rattle.rule_pass.specs.Orderly.{AreOrderly}
use Rattle.rule_pass.proofs.Bounds.{orderly}
use Rattle.rule_pass.proofs.Chains.{are_short}
use Rattle.least_search.specs.declared.node.Node.{Node}
use Rattle.findings.specs.declared.least.Least.{Least}
use Rattle.findings.specs.declared.least.Least.TheVariants as known_cost
use Rattle.least_search.specs.declared.space.Move.{Move}
use Rattle.least_search.specs.declared.search.Ended.{Ended}
use Rattle.least_search.specs.declared.search.Ended.TheVariants as ended
use Rattle.least_search.specs.Walks.{CanGain, IsNode, walk_cost}
use Rattle.least_search.specs.Costs.{IsLeastCost, IsEnough as ServesRuns}
use Rattle.exposure_search.specs.Trials.{HasMoreToDo}
use Rattle.exposure_search.specs.Exploring.{Exploring, exploring_of, IsFounded, space_size, most_labels, CanExpose, GainsAt, HasGoalAt, HasMatchAt, HasTry, HasRunBeyond}
use Rattle.exposure_search.proofs.Explored.{least_found, tries_within, match_goal}
use Rattle.accessible_copy.specs.Proving.{Proving, IsProofOf}
use Rattle.accessible_copy.specs.Goals.{IsGoal}
use Rattle.exposure_search.specs.Making.{IsBaseProof}
use Rattle.exposure_search.specs.Visiting.{IsReached}
use Rattle.plan_extract.specs.Branches.{IsProofFor}
use Rattle.plan_extract.specs.Trimmed.{IsShown}
use Rattle.plan_extract.specs.Arranged.{IsArrangedBranch}
use Rattle.plan_extract.proofs.Shown.{same_shown}
use Rattle.proof_search.specs.Searches.{AreSearchable}
use Rattle.proof_search.specs.Chosen.{IsRunOf, NoneIsEnough, HasMoreFor, HasLongRun}
use Rattle.proof_search.proofs.Based.{base_from}
use Rattle.proof_search.proofs.FewLabels.{labels_in, few_labels}
use Rattle.proof_search.specs.Choices.{ArePossibleGoals, IsLeastFor, CostsAtMost, IsSpaceOf, IsSaidFor}
use Rattle.proof_search.specs.declared.question.Question.{Question}
use Rattle.proof_search.specs.Questions.{MOST_KNOWN, IsQuestion, IsBranchOn, IsSpaceOn, IsChoiceOn}

module _ (schema : SchemaParts) (queries : List Query) (query : Query) (firings : ℕ) (space : Exploring) (is : IsSpaceOf schema queries query firings space) where
  -- a run from the space's start is one of the query
  of_query : (log : List Firing) (end : Proof) → IsRun space.schema space.constants 0 space.start log end → IsRun schema space.constants 0 (opening query) log end
  of_query log end run = subst (λ start. IsRun schema space.constants 0 start log end) is.start (subst (λ s. IsRun s space.constants 0 space.start log end) is.schema_is run)

  -- a run that is too long
  pub long_run : HasRunBeyond space → HasLongRun schema space.constants firings query
  long_run beyond = (beyond.log, (beyond.end, of_query beyond.log beyond.end beyond.run), subst (λ n. n < length beyond.log) is.budget beyond.beyond)

  -- no pair is enough for runs where none is for tries
  pub none_enough : (search : ℕ) → ((m n : ℕ) → ServesRuns (HasTry space) search m n → ⊥) → NoneIsEnough schema space.constants firings search query
  none_enough search none m n enough =
      none m n (record {
        runs = tries_within space m n is.founded (λ log end run.
            let its : IsRunOf schema space.constants query log = (end, of_query log end run) in
            (enough.few_firings log its, enough.few_exposures log its));
        units = enough.units;
      })

  -- there is more to do for a branch at the cost that was the bound
  pub more_for : (search cost : ℕ) (branch : Branch) → IsCost schema branch cost → HasMoreToDo space.schema space.constants space.base cost search →
      HasMoreFor schema space.constants search branch query
  more_for search cost branch costs more = record {
    bases = space.log;
    base = space.base;
    cost = cost;
    fired = subst (λ start. IsBaseRun schema.rules (base_state start) space.log space.base) is.start
        (subst (λ (s : SchemaParts). IsBaseRun s.rules (base_state space.start) space.log space.base) is.schema_is is.founded.run);
    quiet = subst (λ (s : SchemaParts). IsQuiet s.rules space.base) is.schema_is is.founded.quiet;
    costs = costs;
    more = subst (λ s. HasMoreToDo s space.constants space.base cost search) is.schema_is more;
  }

  module _ (rules : RulesFit schema space.constants) (have : (q : Query) → Contains queries q → QueryHasConstants space.constants q) (fits : QueryFits schema query) (its : QueryHasConstants space.constants query) where
    opened : IsFiringRun schema.rules (base_state (opening query)) space.log space.base
    opened =
        subst (λ start. IsFiringRun schema.rules (base_state start) space.log space.base) is.start
        (subst (λ (s : SchemaParts). IsFiringRun s.rules (base_state space.start) space.log space.base) is.schema_is (run_fires space.schema.rules space.log (base_state space.start) space.base is.founded.run))

    -- the base state is one for the query
    base_is : IsBase schema space.constants query space.base (frozen_head query)
    base_is =
        base_from schema space.constants query rules fits its space.log space.base opened (subst (λ (s : SchemaParts). IsQuiet s.rules space.base) is.schema_is is.founded.quiet)

    -- its facts keep to sorts
    sorted_base : AreSortedRules schema → AtomsAreSorted schema query.atoms → AreSortedGrounds schema space.base.facts
    sorted_base sorted atoms =
        run_sorted schema space.log (base_state (opening query)) space.base rules.numbered sorted
        (opening_sorted schema query atoms).base opened

    -- what the search has shown is the least cost of a rival
    pub least_for : IsWellFormed schema → AreOrderly schema.rules → AreSortedRules schema →
        AtomsAreSorted schema query.atoms → firings ≤ MOST_FIRINGS → length space.constants ≤ MOST_KNOWN → (best : ℕ) →
        IsLeastCost (space_size space) (CanGain (CanExpose space) (GainsAt space)) (HasGoalAt space) best →
        (branch : Branch) → CostsAtMost schema branch best → IsLeastFor schema space.constants queries query branch
    least_for well are sorted atoms few_firings few_known best least branch (low, costs, cheap) rival cost other
        is_rival cost_is other_is =
        let goals : ArePossibleGoals queries (frozen_head query) space.base.facts space.queries =
        subst (λ vals. ArePossibleGoals queries vals space.base.facts space.queries) is.head is.goals in
        let (exposures, exposing, few, has) = rival_exposes_possible schema space.constants queries space.queries query
        space.base (frozen_head query) rival other well rules have base_is (sorted_base sorted atoms) goals.answered
        is_rival other_is in
        let same : cost ≡ low = cost_once schema well branch.steps cost low cost_is costs in
        let short : AreShort schema.rules = are_short schema.rules are.non_recursive in
        let here : IsExposing space.schema space.constants space.base.facts [] exposures = subst (λ s. IsExposing s space.constants space.base.facts [] exposures) (sym is.schema_is) exposing in
        let Goal : SchemaParts → List Val → Type 0 =
        λ s vals. HasGoalOver s space.constants space.queries vals space.base.next (most_labels s.rules + new_labels s.rules)
        (exposed_facts exposures) in
        let possible : Goal schema (frozen_head query) =
        has (most_labels schema.rules + new_labels schema.rules)
        (few_labels schema.rules space.base.next firings (length space.constants) are few_firings is.labels few_known)
        in
        let there : Goal space.schema space.head =
        subst (λ s. Goal s space.head) (sym is.schema_is) (subst (λ vals. Goal schema vals) (sym is.head) possible) in
        let most : best ≤ exposures_cost exposures =
        least_found space best is.founded (subst (λ (s : SchemaParts). AreShort s.rules) (sym is.schema_is) short)
        (subst (λ s. RulesFit s space.constants) (sym is.schema_is) rules) base_is.named
        (subst (λ s. Fit s space.base.facts) (sym is.schema_is) base_is.fits) least exposures here there in
        omega arith

    goal_at : (set : List Bool) → HasMatchAt space set → HasGoalAt space set
    goal_at set has =
        match_goal space set (subst (λ s. RulesFit s space.constants) (sym is.schema_is) rules) (λ q among. have q (is.goals.within q among)) base_is.named
        (λ v c. base_is.head_named v (subst (λ head. Contains head v) is.head c)) has

    -- where a set with a match is not reached, some run is too long
    pub not_reached : (set : List Bool) → HasMatchAt space set → HasRunBeyond space ⊎ (HasGoalAt space set → ⊥) → HasLongRun schema space.constants firings query
    not_reached set has none = ⊎_elim long_run (λ refuted. absurd (refuted (goal_at set has))) none

-- ---- what a search says of a branch

-- the goals that are possible over a proof's base facts are those of its space
pub goals_in : (schema : SchemaParts) (base : Proving) (queries goals : List Query) (head : List Val) (budget : ℕ) →
    ArePossibleGoals queries head base.end.base goals → (space : Exploring) → space ≡ exploring_of schema base goals head budget space.marks →
    ArePossibleGoals queries space.head space.base.facts space.queries
goals_in schema base queries goals head budget are space e =
    subst (λ (x : Exploring). ArePossibleGoals queries x.head x.base.facts x.queries) (sym e) are

-- the space of a proof of base firings
pub space_on : (question : Question) → IsQuestion question → (base : Proving) →
    IsBaseProof (meaning_of question.schema.now) base → base.start ≡ opening question.query.now →
    base.constants ≡ question.known.now → length base.entries ≤ question.firings →
    (goals : List Query) → ArePossibleGoals question.queries.now question.head.now base.end.base goals → (space : Exploring) →
    space ≡ exploring_of (meaning_of question.schema.now) base goals question.head.now question.firings space.marks → IsFounded space → IsSpaceOn question space
space_on question is base bases start constants few goals are space e founded = record {
  of_query = record {
    schema_is = ap (λ (x : Exploring). x.schema) e;
    start = ap (λ (x : Exploring). x.start) e ∙ start;
    goals = goals_in (meaning_of question.schema.now) base question.queries.now goals question.head.now question.firings are space e;
    head = ap (λ (x : Exploring). x.head) e ∙ is.head;
    budget = ap (λ (x : Exploring). x.budget) e;
    labels = labels_in question.schema.now base goals question.head.now question.firings bases.run few space e;
    founded = founded;
  };
  constants = ap (λ (x : Exploring). x.constants) e ∙ constants;
}

module _ (question : Question) (is : IsQuestion question) (space : Exploring) (its : IsSpaceOn question space) where
  searchable : AreSearchable (meaning_of question.schema.now) space.constants question.queries.now
  searchable = subst (λ known. AreSearchable (meaning_of question.schema.now) known question.queries.now) (sym its.constants) is.queries

  have : (c : Value) → Contains question.schema.now.constants c → Contains space.constants c
  have c among = subst (λ known. Contains known c) (sym its.constants) (is.known c among)

  fits_rules : RulesFit (meaning_of question.schema.now) space.constants
  fits_rules = rules_fit question.schema.now space.constants have

  said_here : (search : ℕ) (branch : Branch) (best : ℕ) → CostsAtMost (meaning_of question.schema.now) branch best → (end : Ended) (least : Least) →
      (end ≡ ended.Shown → least ≡ known_cost.Shown) → ((units : ℕ) → end ≡ ended.SearchSpent units → least ≡ known_cost.SearchSpent search) → (end ≡ ended.FiringsSpent → least ≡ known_cost.FiringsSpent question.firings) →
      (end ≡ ended.Shown → IsLeastCost (space_size space) (CanGain (CanExpose space) (GainsAt space)) (HasGoalAt space) best) →
      ((units : ℕ) → end ≡ ended.SearchSpent units → (m n : ℕ) → ServesRuns (HasTry space) search m n → ⊥) →
      ((units : ℕ) → end ≡ ended.SearchSpent units → (cost : ℕ) × IsCost (meaning_of question.schema.now) branch cost × HasMoreToDo space.schema space.constants space.base cost search) →
      (end ≡ ended.FiringsSpent → HasRunBeyond space) →
      IsSaidFor (meaning_of question.schema.now) space.constants question.queries.now question.firings search question.query.now branch least
  said_here search branch best costs ended.Shown least shown spent long is_least none more beyond =
      let can = searchable question.query.now is.among in
      subst (IsSaidFor (meaning_of question.schema.now) space.constants question.queries.now question.firings search question.query.now branch) (sym (shown refl))
      (least_for (meaning_of question.schema.now) question.queries.now question.query.now question.firings space
      its.of_query fits_rules (λ q there. (searchable q there).constants) can.fits can.constants
      (well_formed question.schema.now) (orderly question.schema.now) (rules_sorted question.schema.now) can.sorted
      is.firings (subst (λ (known : List Value). length known ≤ MOST_KNOWN) (sym its.constants) is.few_known) best
      (is_least refl) branch costs)
  said_here search branch best costs (ended.SearchSpent units) least shown spent long is_least none more beyond =
      subst (IsSaidFor (meaning_of question.schema.now) space.constants question.queries.now question.firings search question.query.now branch) (sym (spent units refl)) (
        refl,
        record {
          none_enough = none_enough (meaning_of question.schema.now) question.queries.now question.query.now question.firings space its.of_query search (none units refl);
          more = let (cost, costs_so, left) = more units refl in
              more_for (meaning_of question.schema.now) question.queries.now question.query.now question.firings space its.of_query search cost branch costs_so left;
        },
      )
  said_here search branch best costs ended.FiringsSpent least shown spent long is_least none more beyond =
      subst (IsSaidFor (meaning_of question.schema.now) space.constants question.queries.now question.firings search question.query.now branch) (sym (long refl))
      (refl, long_run (meaning_of question.schema.now) question.queries.now question.query.now question.firings space its.of_query (beyond refl))

  -- what is said of a branch is so
  pub chosen_on : (search : ℕ) (branch : Branch) (least : Least) → IsBranchOn question branch → (best : ℕ) → CostsAtMost (meaning_of question.schema.now) branch best → (end : Ended) →
      (end ≡ ended.Shown → least ≡ known_cost.Shown) → ((units : ℕ) → end ≡ ended.SearchSpent units → least ≡ known_cost.SearchSpent search) → (end ≡ ended.FiringsSpent → least ≡ known_cost.FiringsSpent question.firings) →
      (end ≡ ended.Shown → IsLeastCost (space_size space) (CanGain (CanExpose space) (GainsAt space)) (HasGoalAt space) best) →
      ((units : ℕ) → end ≡ ended.SearchSpent units → (m n : ℕ) → ServesRuns (HasTry space) search m n → ⊥) →
      ((units : ℕ) → end ≡ ended.SearchSpent units → (cost : ℕ) × IsCost (meaning_of question.schema.now) branch cost × HasMoreToDo space.schema space.constants space.base cost search) →
      (end ≡ ended.FiringsSpent → HasRunBeyond space) →
      IsChoiceOn question search (record { branch = branch; least = least })
  chosen_on search branch least one best costs end shown spent long is_least none more beyond = record {
    branch = one;
    said = subst (λ known. IsSaidFor (meaning_of question.schema.now) known question.queries.now question.firings search question.query.now branch least) its.constants
        (said_here search branch best costs end least shown spent long is_least none more beyond);
  }

  -- a set with a match that is not reached
  pub not_reached_here : (set : List Bool) → HasMatchAt space set → HasRunBeyond space ⊎ (HasGoalAt space set → ⊥) → HasLongRun (meaning_of question.schema.now) question.known.now question.firings question.query.now
  not_reached_here set has none =
      let can = searchable question.query.now is.among in
      subst (λ known. HasLongRun (meaning_of question.schema.now) known question.firings question.query.now) its.constants
      (not_reached (meaning_of question.schema.now) question.queries.now question.query.now question.firings space its.of_query fits_rules (λ q there. (searchable q there).constants) can.fits can.constants set has none)

  -- the goals of the space are some of the queries
  pub goals_within : (goals : List Query) → space.queries ≡ goals → (q : Query) → Contains goals q → Contains question.queries.now q
  goals_within goals same q among = its.of_query.goals.within q (subst (λ list. Contains list q) (sym same) among)

  module _ (path : List Move) (proof : Proving) (reached : IsReached space path proof) where
    reached_run : IsProofOf (meaning_of question.schema.now) proof
    reached_run = subst (λ s. IsProofOf s proof) its.of_query.schema_is reached.run

    pub reached_constants : proof.constants ≡ question.known.now
    reached_constants = reached.constants ∙ its.constants

    pub reached_few : length proof.entries ≤ question.firings
    reached_few = subst (λ n. length proof.entries ≤ n) its.of_query.budget reached.few

    pub reached_for : IsProofFor (meaning_of question.schema.now) proof question.head.now question.query.now
    reached_for =
        let can = searchable question.query.now is.among in
        record {
          run = reached_run;
          begun = reached.start ∙ its.of_query.start;
          fits = can.fits;
          constants = subst (λ constants. QueryHasConstants constants question.query.now) (sym reached.constants) can.constants;
          head_is = is.head;
        }

    pub reached_goal : (goals : List Query) → space.queries ≡ goals → (number : ℕ) (values : List Val) → IsGoal space.queries proof.end.copy space.head number values → IsGoal goals proof.end.copy question.head.now number values
    reached_goal goals same number values found =
        subst (λ vals. IsGoal goals proof.end.copy vals number values) (its.of_query.head ∙ sym is.head) (subst (λ list. IsGoal list proof.end.copy space.head number values) same found)

    pub reached_cost : (node : Node) → IsNode (space_size space) (CanExpose space) node → path ≡ node.path.items → (goals : List Query) (values : List Val) (number : ℕ) (branch : Branch) →
        IsArrangedBranch (meaning_of question.schema.now) proof goals question.head.now number values branch → CostsAtMost (meaning_of question.schema.now) branch node.cost
    reached_cost node node_is same goals values number branch arranged =
        let shown : AllZip (IsShown (meaning_of question.schema.now)) proof.exposed reached.made = subst (λ s. AllZip (IsShown s) proof.exposed reached.made) its.of_query.schema_is reached.shown in
        let made : arranged.exposures ≡ reached.made = same_shown (meaning_of question.schema.now) proof.exposed arranged.exposures reached.made arranged.shown shown in
        let all : exposures_cost arranged.exposures ≡ node.cost = ap exposures_cost made ∙ reached.cost ∙ ap walk_cost same ∙ sym node_is.cost in
        let cheap = arranged.cheap in
        (exposures_cost arranged.kept, arranged.cost, omega arith)
