-- A rival on sorted models gives exposures whose facts have the goal on every sorted state at rest with few labels.
-- Its own query stands in for it: the rows of a lawful branch are that query's answers on any facts, sorted or not.
use Rattle.std.proofs.Common.{ℕ, ◌+◌, ◌^◌, ◌<◌, ◌≤◌, List, [], ◌∷◌, length, refl, sym, subst, ⊎_elim, arith}
use Rattle.std.specs.Prelude.{Contains, map}
use Rattle.std.proofs.lemmas.Bool.{cases_lt}
use Rattle.lists.proofs.Members.{contains_here, contains_one}
use Rattle.meaning_laws.proofs.Deciding.{quiet_meets}
use Rattle.meaning_laws.proofs.Frozen.{branch_query_fits}
use Rattle.meaning_laws.proofs.Judging.{rows_are_answers}
use Rattle.meaning_laws.proofs.Keeping.{named_more}
use Rattle.meaning_laws.proofs.Renaming.{renamed_meets, answer_renamed, answer_back}
use Rattle.meaning_laws.proofs.Rivals.{rival_exposes}
use Rattle.meaning_laws.proofs.Witness.{renamed_fits}
use Rattle.meaning.specs.declared.types.Atom.{Atom}
use Rattle.meaning.specs.declared.types.Branch.{Branch}
use Rattle.meaning.specs.declared.types.Ground.{Ground}
use Rattle.meaning.specs.declared.types.Out.{Out}
use Rattle.meaning.specs.declared.types.Query.{Query}
use Rattle.meaning.specs.declared.types.SchemaParts.{SchemaParts}
use Rattle.meaning.specs.declared.types.Step.{Step}
use Rattle.meaning.specs.declared.types.Val.{Val}
use Rattle.meaning.specs.declared.types.Val.TheVariants.{Const}
use Rattle.meaning.specs.Matching.{IsQueryAnswer, GroundsOf}
use Rattle.meaning.specs.Plans.{IsWellFormed, made, AreLawfulFrom, IsLawfulBranch}
use Rattle.meaning.specs.Costs.{IsCost}
use Rattle.meaning.specs.Homomorphisms.{image, renamed}
use Rattle.meaning.specs.Triggers.{State, IsQuiet}
use Rattle.meaning.specs.Naming.{IsNaming, AreNamed}
use Rattle.meaning.specs.Fitting.{RulesFit, QueryHasConstants, Fit}
use Rattle.meaning.specs.Extract.{Exposure, exposed_facts, IsExposing, exposures_cost, IsBase, IsQueryRival}
use Rattle.meaning.specs.Judge.{terms_of, AreAtoms, out_term, columns_of, IsBranchQuery}
use Rattle.meaning_laws.specs.Rests.{IsRest}
use Rattle.integer_laws.proofs.Firings.{renamed_sorted}
use Rattle.integer_laws.proofs.Numbers.{mixed_naming_exists}
use Rattle.integer_laws.specs.Sorted.{AreSortedGrounds}
use Rattle.integer_laws.specs.Claimed.{IsSortedModel, IsSortedRival, IsSortedRest, HasSortedGoalOver}

-- a lawful branch has a query
steps_atoms : (schema : SchemaParts) (constants : List (List ℕ)) (n : ℕ) (steps : List Step) (output : List Out) →
    AreLawfulFrom schema constants n steps output → (atoms : List Atom) × AreAtoms schema n steps atoms
steps_atoms schema constants n [] output lawful = ([], refl)
steps_atoms schema constants n (step ∷ steps) output (method, lawful, more) =
    let (rest, are) = steps_atoms schema constants (made n step.places) steps output more in (
      record { rel = method.rel; terms = terms_of n step.places } ∷ rest,
      (method, rest, lawful.named, refl, are),
    )

branch_has_query : (schema : SchemaParts) (constants : List (List ℕ)) (branch : Branch) →
    IsLawfulBranch schema constants branch → (query : Query) × IsBranchQuery schema branch query
branch_has_query schema constants branch lawful =
    let (atoms, are) = steps_atoms schema constants 0 branch.steps branch.output lawful in (
      record { atoms = atoms; head = map out_term branch.output; variables = columns_of 0 branch.steps },
      record { atoms = are; head = refl; variables = refl },
    )

-- exposures of a branch's own query: no instance is asked for, as on any facts the branch is a rival for that query
pub branch_exposes : (schema : SchemaParts) (constants : List (List ℕ)) (own : Query) (base : State) (head : List Val)
    (branch : Branch) (cost : ℕ) → IsWellFormed schema → RulesFit schema constants → IsLawfulBranch schema constants branch →
    IsBranchQuery schema branch own → IsBase schema constants own base head → IsCost schema branch cost →
    (exposures : List Exposure) × IsExposing schema constants base.facts [] exposures × (exposures_cost exposures ≤ cost)
    × ((most : ℕ) (end : State) → IsRest schema constants base.next most (exposed_facts exposures) end →
    IsQueryAnswer Const (GroundsOf end.facts) own head)
branch_exposes schema constants own base head branch cost well rules lawful its is_base is_cost =
    let own_have : QueryHasConstants constants own = (branch_query_fits schema well constants branch own lawful its).1 in
    let own_rival : IsQueryRival schema constants (own ∷ []) own branch = record {
      lawful = lawful;
      sound = λ facts row model rows.
          (own, contains_here own [], (rows_are_answers schema constants branch own facts row well lawful its).0 rows);
      complete = λ facts row model answers. (rows_are_answers schema constants branch own facts row well lawful its).1 answers;
    } in
    let (exposures, exposing, cheap, goals) = rival_exposes schema constants (own ∷ []) own base head branch cost well rules
    (λ q among. subst (QueryHasConstants constants) (contains_one own q among) own_have) is_base own_rival is_cost in (
      exposures,
      exposing,
      cheap,
      λ most end rest.
          let (goal, among, answered) = goals most end rest in
          subst (λ q. IsQueryAnswer Const (GroundsOf end.facts) q head) (sym (contains_one own goal among)) answered,
    )

-- a quiet state of sorted facts with few labels has names under which it is a sorted model
pub rest_is_model : (schema : SchemaParts) (constants : List (List ℕ)) (state : State) → RulesFit schema constants →
    IsQuiet schema.rules state → AreNamed constants state.next state.facts → Fit schema state.facts →
    AreSortedGrounds schema state.facts → state.next + length constants ≤ 2 ^ 63 →
    (h : ℕ → List ℕ) × IsNaming constants state.next h × IsSortedModel schema (renamed h state.facts)
rest_is_model schema constants state rules quiet named fits sorted few =
    let (h, naming, integers) = mixed_naming_exists schema constants state.next few in (
      h,
      naming,
      record {
        model = record {
          fits = renamed_fits schema h state.facts fits;
          meets = renamed_meets constants state.next h naming state.facts named schema.rules rules.have
              (quiet_meets schema.rules state rules.numbered quiet);
        };
        sorted = renamed_sorted schema h state.facts sorted (integers state.facts);
      },
    )

module _ (schema : SchemaParts) (constants : List (List ℕ)) (queries : List Query) (query : Query) (base : State)
    (head : List Val) (rival : Branch) (cost : ℕ) (well : IsWellFormed schema) (rules : RulesFit schema constants)
    (have : (q : Query) → Contains queries q → QueryHasConstants constants q)
    (is_base : IsBase schema constants query base head) (sorted : AreSortedGrounds schema base.facts)
    (is_rival : IsSortedRival schema constants queries query rival) (is_cost : IsCost schema rival cost) where
  -- what the law gives
  Exposes : Type 0
  Exposes = (exposures : List Exposure) × IsExposing schema constants base.facts [] exposures
      × (exposures_cost exposures ≤ cost)
      × ((most : ℕ) → most + length constants ≤ 2 ^ 63 →
      HasSortedGoalOver schema constants queries head base.next most (exposed_facts exposures))

  module _ (own : Query) (its : IsBranchQuery schema rival own) where
    own_have : QueryHasConstants constants own
    own_have = (branch_query_fits schema well constants rival own is_rival.lawful its).1

    -- the head answers the branch's query on the base, where that has few labels
    own_base : base.next + length constants ≤ 2 ^ 63 → IsBase schema constants own base head
    own_base few =
        let (h, naming, model) = rest_is_model schema constants base rules is_base.quiet is_base.named is_base.fits sorted few in
        let rows = is_rival.complete (renamed h base.facts) (map (image h) head) model
        (answer_renamed constants base.next h naming base.facts is_base.named query head is_base.answered) in
        let answers = (rows_are_answers schema constants rival own (renamed h base.facts) (map (image h) head) well
        is_rival.lawful its).0 rows in
        record {
          quiet = is_base.quiet;
          named = is_base.named;
          fits = is_base.fits;
          answered = answer_back constants base.next h naming base.facts is_base.named own head own_have.atoms own_have.head
              is_base.head_named answers;
          head_named = is_base.head_named;
        }

    -- where the head answers the branch's query on a sorted state at rest, it answers one of the queries
    own_goal : (most : ℕ) (facts : List Ground) (end : State) → most + length constants ≤ 2 ^ 63 →
        IsSortedRest schema constants base.next most facts end → IsQueryAnswer Const (GroundsOf end.facts) own head →
        (goal : Query) × Contains queries goal × IsQueryAnswer Const (GroundsOf end.facts) goal head
    own_goal most facts end few is answered =
        let rest = is.rest in
        let top : end.next ≤ most = rest.few in
        let (h, naming, model) =
        rest_is_model schema constants end rules rest.quiet rest.named rest.fits is.sorted (omega arith) in
        let rows = (rows_are_answers schema constants rival own (renamed h end.facts) (map (image h) head) well
        is_rival.lawful its).1 (answer_renamed constants end.next h naming end.facts rest.named own head answered) in
        let (goal, among, answer) = is_rival.sound (renamed h end.facts) (map (image h) head) model rows in
        let goal_have = have goal among in (
          goal,
          among,
          answer_back constants end.next h naming end.facts rest.named goal head goal_have.atoms goal_have.head
              (λ v c. named_more constants base.next end.next v rest.low (is_base.head_named v c)) answer,
        )

    of_few : base.next + length constants ≤ 2 ^ 63 → Exposes
    unfolding Exposes
    of_few few =
        let (exposures, exposing, cheap, answers) = branch_exposes schema constants own base head rival cost well rules
        is_rival.lawful its (own_base few) is_cost in (
          exposures,
          exposing,
          cheap,
          λ most low end is. own_goal most (exposed_facts exposures) end low is (answers most end is.rest),
        )

  -- with more labels in the base no state at rest has few
  pub rival_exposes_sorted : (exposures : List Exposure) × IsExposing schema constants base.facts [] exposures
      × (exposures_cost exposures ≤ cost)
      × ((most : ℕ) → most + length constants ≤ 2 ^ 63 →
      HasSortedGoalOver schema constants queries head base.next most (exposed_facts exposures))
  unfolding Exposes
  rival_exposes_sorted =
      ⊎_elim
      (λ (many : 2 ^ 63 < base.next + length constants). (
        [],
        tt,
        omega arith,
        λ most low end is.
            let up : base.next ≤ end.next = is.rest.low in
            let top : end.next ≤ most = is.rest.few in
            absurd (omega arith),
      ))
      (λ few. let (own, its) = branch_has_query schema constants rival is_rival.lawful in of_few own its few)
      (cases_lt (2 ^ 63) (base.next + length constants))
