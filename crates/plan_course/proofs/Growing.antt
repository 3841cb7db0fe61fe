-- What a course's step asks, and the course behind it.
use Rattle.std.proofs.Common.{◌≡◌, ◌↔◌, ℕ, ◌+◌, ◌<◌, List, [], ◌∷◌, ◌++◌, length, take, drop, get_or, Option, Some, Bool, refl, sym, ◌∙◌, ap, subst, arith}
use Rattle.std.specs.Prelude.{Contains, flat_map, slice_get}
use Rattle.std.proofs.lemmas.Option.{slice_get_within, get_or_from_slice_get}
use Rattle.lists.proofs.Members.{some_injective}
use Rattle.meaning.specs.declared.types.SchemaParts.{SchemaParts}
use Rattle.meaning.specs.declared.types.Fact.{Fact}
use Rattle.meaning.specs.declared.types.Place.{Place}
use Rattle.meaning.specs.declared.types.Step.{Step}
use Rattle.meaning.specs.declared.types.Branch.{Branch}
use Rattle.meaning.specs.declared.types.Plan.{Plan}
use Rattle.meaning.specs.declared.types.Request.{Request}
use Rattle.meaning.specs.Plans.{made}
use Rattle.meaning.specs.Rows.{IsBranchRow}
use Rattle.meaning.specs.Requests.{IsRound}
use Rattle.access_schema.specs.declared.schema.Schema.{Schema}
use Rattle.access_schema.specs.Meaning.{meaning_of}
use Rattle.access_schema.proofs.Keeping.{well_formed}
use Rattle.source_trait.specs.Asking.{RowList, pick}
use Rattle.middleware.specs.Asked.{IsStepRequest}
use Rattle.middleware.specs.Blocks.{AreTables, HaveLive, AreBlocks}
use Rattle.middleware.specs.BlockRounds.{Checks}
use Rattle.middleware.specs.Branches.{ArePartial, IsInput, IsReady, columns_after}
use Rattle.middleware.specs.Joining.{grown, input_row_of}
use Rattle.middleware.specs.LaneAsking.{AnswersFrom}
use Rattle.middleware.specs.Live.{is_live}
use Rattle.middleware.specs.Rounds.{IsWanted, next_rows, requests_of}
use Rattle.middleware.specs.declared.blocks.Block.{Block}
use Rattle.middleware.proofs.BlockRounding.{asking_below, rest_below, wants, of_step, go_tables, go_live, go_blocks}
use Rattle.middleware.proofs.Branching.{columns_push, inputs_for, left_at}
use Rattle.middleware.proofs.Distinct.{joined_same, wanted_same}
use Rattle.middleware.proofs.Laning.{wanted_there}
use Rattle.middleware.proofs.LaneValues.{answer_at, answers_at, answered_rows}
use Rattle.middleware.proofs.Lone.{answers_moved}
use Rattle.middleware.proofs.Steps.{is_round, next_partial}
use Rattle.shared_rounds.specs.SharedRounds.{AreAskedAt, IsTurn, Turn, turns_of, steps_in}
use Rattle.plan_course.specs.Courses.{HasPartial, IsAt, IsWithin, Knows, Settles, Stands, StandsIn, live_from}
use Rattle.plan_course.specs.Turns.{AreOfTurn, AsksIn, Grows, IsPending}
use Rattle.plan_course.specs.declared.course.Course.{Course}
use Rattle.plan_course.specs.declared.turns.Pending.{Pending}
use Rattle.lists.proofs.Places.{take_got}
use Rattle.plan_course.proofs.Standing.{IsAtStep, at_step, knows_at, knows_in, settled_at}

abbrev pub asked : Pending → List Request
asked pending = requests_of pending.method.rel pending.method.inputs pending.wanted.requests

module _ (schema : Schema) (its : Branch) (course : Course) (pending : Pending) (a : AsksIn schema its course pending) where
  abbrev parts : SchemaParts
  parts = meaning_of schema

  abbrev rest : List Step
  rest = drop (course.step + 1) its.steps

  abbrev live : ℕ → Bool
  live = is_live (a.step ∷ rest) its.output

  less : course.step < length its.steps
  less = slice_get_within its.steps course.step a.step a.of_branch

  is_step : a.step ≡ get_or its.steps course.step a.step
  is_step = sym (get_or_from_slice_get its.steps course.step a.step a.step a.of_branch)

  left : drop course.step its.steps ≡ a.step ∷ rest
  left = left_at its.steps course.step a.step less is_step

  ready_step : IsReady parts (columns_after 0 (take course.step its.steps)) a.step
  ready_step = a.ready.steps course.step a.step a.of_branch

  ready : IsReady parts course.count a.step
  ready = subst (λ n. IsReady parts n a.step) (sym a.stands.count_is) ready_step

  have : HaveLive live course.count course.blocks.items
  have = subst (λ (s : List Step). HaveLive (is_live s its.output) course.count course.blocks.items) left a.stands.live_columns

  were : (facts : List Fact) (m : HasPartial parts facts its course) → AreBlocks live course.count m.partial course.blocks.items
  were facts m = subst (λ (s : List Step). AreBlocks (is_live s its.output) course.count m.partial course.blocks.items) left m.blocks_are

  -- ---- what waits for the answers

  pub pending_below : (k : ℕ) → Contains pending.columns k → k < pending.count
  pending_below k c =
      let l = asking_below schema (well_formed schema) a.step rest its.output course.count course.blocks.items ready have
      pending.method a.named a.asking a.asks k
      (subst (λ (l : List ℕ). Contains l k) a.columns_are c) in
      subst (λ n. k < n) (sym a.count_is) l

  pub pending_rest : AreTables pending.count pending.rest.items
  pending_rest =
      subst (λ n. AreTables n pending.rest.items) (sym a.count_is)
      (subst (λ (b : List Block). AreTables a.asking.count b) (sym a.rest_are)
      (rest_below schema (well_formed schema) a.step rest its.output course.count course.blocks.items ready have pending.method
      a.named a.asking a.asks))

  -- ---- the requests

  at_asking : IsWanted a.asking.step.places pending.method.inputs a.asking.rows pending.wanted.requests
  at_asking = subst (λ (p : List Place). IsWanted p pending.method.inputs a.asking.rows pending.wanted.requests) a.places_are
      (wanted_same a.asking.rows pending.wanted.rows a.same pending.places pending.method.inputs pending.wanted.requests a.wanted)

  pub asked_of_step : (request : Request) → Contains (asked pending) request → IsStepRequest parts a.step request
  asked_of_step = of_step schema (well_formed schema) a.step rest its.output course.count course.blocks.items ready have
      pending.method a.named a.asking a.asks
      pending.wanted.requests at_asking

  inputs : (p : ℕ) → Contains pending.method.inputs p → IsInput (columns_after 0 (take course.step its.steps)) (slice_get a.step.places p)
  inputs = inputs_for parts (well_formed schema) (columns_after 0 (take course.step its.steps)) a.step pending.method a.named ready_step

  pub asked_round : (facts : List Fact) → HasPartial parts facts its course
      → IsRound parts facts (take course.step its.steps) a.step (asked pending)
  asked_round facts m =
      let wanted : IsWanted a.step.places pending.method.inputs m.partial pending.wanted.requests =
      wants schema (well_formed schema) a.step rest its.output course.count course.blocks.items ready have pending.method
      a.named a.asking a.asks
      pending.wanted.requests at_asking m.partial (were facts m) in
      is_round parts (well_formed schema) facts (take course.step its.steps) a.step pending.method a.named inputs m.partial
      pending.wanted.requests m.partial_are wanted

  -- ---- the course behind the step

  module _ (answers : List RowList) (next : Course) (g : Grows its pending answers next) where
    abbrev grown_block : Block
    grown_block = record { columns = pending.columns; rows = g.rows }

    step_next : pending.step + 1 ≡ course.step + 1
    step_next = ap (λ n. n + 1) a.step_is

    checks : Checks (is_live rest its.output) a.asking.count grown_block a.asking.rest.items next.blocks.items
    checks =
        subst (λ (b : List Block). Checks (is_live rest its.output) a.asking.count grown_block b next.blocks.items) a.rest_are
        (subst (λ n. Checks (is_live rest its.output) n grown_block pending.rest.items next.blocks.items) a.count_is
        (subst (λ n. Checks (live_from its n) pending.count grown_block pending.rest.items next.blocks.items) step_next g.checks))

    step_is : next.step ≡ course.step + 1
    step_is = g.step_is ∙ step_next

    taken : take next.step its.steps ≡ take course.step its.steps ++ a.step ∷ []
    taken = ap (λ n. take n its.steps) step_is ∙ take_got its.steps course.step a.step a.of_branch

    count_asking : a.asking.count ≡ next.count
    count_asking = sym (g.count_is ∙ a.count_is)

    live_is : live_from its (course.step + 1) ≡ live_from its next.step
    live_is = ap (λ n. live_from its n) (sym step_is)

    pub grown_within : IsWithin its next
    grown_within = record {
      within = let l = less in let e = step_is in omega (arith, l, e);
      count_is = sym count_asking ∙ a.asks.count_is ∙ ap (λ n. made n a.step.places) a.stands.count_is
          ∙ sym (columns_push 0 (take course.step its.steps) a.step)
          ∙ ap (λ (l : List Step). columns_after 0 l) (sym taken);
      tables = subst (λ n. AreTables n next.blocks.items) count_asking
          (go_tables schema (well_formed schema) a.step rest its.output course.count course.blocks.items ready have
          pending.method a.named a.asking a.asks
          grown_block a.columns_are next.blocks.items checks);
      live_columns = subst (λ n. HaveLive (live_from its n) next.count next.blocks.items) (sym step_is)
          (subst (λ n. HaveLive (is_live rest its.output) n next.blocks.items) count_asking
          (go_live schema (well_formed schema) a.step rest its.output course.count course.blocks.items ready have pending.method
          a.named a.asking a.asks
          grown_block a.columns_are next.blocks.items checks));
    }

    module _ (facts : List Fact) (from : AnswersFrom facts pending.method pending.wanted.requests answers)
        (m : HasPartial parts facts its course) where
      ordered : AnswersFrom facts pending.method pending.wanted.requests g.joined.ordered
      ordered = answers_moved facts pending.method pending.wanted.requests answers g.joined.ordered g.joined.same from

      abbrev joins : List (List ℕ) → RowList
      joins row =
          grown pending.places (pick facts pending.method.rel pending.method.inputs (input_row_of pending.places pending.method.inputs row)) row

      -- the rows that the answers give are those of the facts
      rows_wanted : (row : List (List ℕ))
          → Contains g.rows row ↔ Contains (next_rows pending.places pending.method facts pending.wanted.rows) row
      rows_wanted =
          let answer : List (List ℕ) → RowList = answer_at pending.wanted.requests g.joined.ordered in
          let is :
          g.rows ≡ flat_map (λ r. grown pending.places (answer (input_row_of pending.places pending.method.inputs r)) r) pending.wanted.rows =
          g.joined.joins answer (answers_at pending.wanted.requests g.joined.ordered a.wanted.ascends ordered.len) in
          answered_rows pending.places pending.method facts pending.wanted.rows pending.wanted.requests g.joined.ordered
          a.wanted.ascends ordered
          (λ row c. wanted_there pending.places pending.method.inputs pending.wanted.rows pending.wanted.requests
          pending.wanted.requests row refl a.wanted c)
          g.rows (λ row. ((λ c. subst (λ (l : RowList). Contains l row) is c), (λ c. subst (λ (l : RowList). Contains l row) (sym is) c)))

      rows_same : (row : List (List ℕ)) → Contains g.rows row ↔ Contains (next_rows pending.places pending.method facts a.asking.rows) row
      rows_same row =
          let here = rows_wanted row in
          let there = joined_same a.asking.rows pending.wanted.rows a.same joins row in
          ((λ c. there.0 (here.0 c)), (λ c. here.1 (there.1 c)))

      rows_asking : (row : List (List ℕ))
          → Contains g.rows row ↔ Contains (next_rows a.asking.step.places pending.method facts a.asking.rows) row
      rows_asking =
          subst (λ (p : List Place). (row : List (List ℕ)) → Contains g.rows row ↔ Contains (next_rows p pending.method facts a.asking.rows) row)
          a.places_are rows_same

      abbrev others : RowList
      others = next_rows a.step.places pending.method facts m.partial

      pub grown_partial : HasPartial parts facts its next
      grown_partial = record {
        partial = others;
        partial_are = subst (λ (l : List Step). ArePartial parts facts l others) (sym taken)
            (next_partial parts (well_formed schema) facts (take course.step its.steps) a.step pending.method a.named inputs m.partial
            others m.partial_are
            (λ row. ((λ c. c), (λ c. c))));
        blocks_are = subst (λ n. AreBlocks (live_from its n) next.count others next.blocks.items) (sym step_is)
            (subst (λ n. AreBlocks (is_live rest its.output) n others next.blocks.items) count_asking
            (go_blocks schema (well_formed schema) a.step rest its.output course.count course.blocks.items ready have
            pending.method a.named a.asking a.asks
            grown_block a.columns_are next.blocks.items checks facts m.partial (were facts m) rows_asking));
      }

-- ---- in a plan

module _ (schema : Schema) (plan : Plan) (course : Course) (pending : Pending) (its : Branch)
    (at : slice_get plan.branches course.branch ≡ Some its) (a : AsksIn schema its course pending) (n : ℕ)
    (is : IsAt plan n course) where
  here : IsAtStep plan n course its
  here = at_step plan n course its at is

  same_step : a.step ≡ here.turn.its
  same_step = some_injective a.step here.turn.its (sym a.of_branch ∙ here.of_branch)

  pub pending_turn : (facts : List Fact) → Knows (meaning_of schema) facts plan course
      → IsTurn (meaning_of schema) facts n plan (asked pending)
  pending_turn facts k =
      let round = asked_round schema its course pending a facts (knows_at (meaning_of schema) facts plan course its at k) in
      subst (λ (o : Option Turn). AreAskedAt (meaning_of schema) facts o (asked pending)) (sym here.got)
      (subst (λ (l : List Step). IsRound (meaning_of schema) facts l here.turn.its (asked pending)) (sym here.before_are)
      (subst (λ (s : Step). IsRound (meaning_of schema) facts (take course.step its.steps) s (asked pending)) same_step round))

  pub pending_of_turn : AreOfTurn (meaning_of schema) (slice_get (turns_of plan) n) (asked pending)
  pending_of_turn =
      subst (λ (o : Option Turn). AreOfTurn (meaning_of schema) o (asked pending)) (sym here.got)
      (subst (λ (s : Step). (request : Request) → Contains (asked pending) request → IsStepRequest (meaning_of schema) s request) same_step
      (asked_of_step schema its course pending a))

-- one of the first branches has the row
abbrev OfBranches : SchemaParts → List Fact → Plan → ℕ → List (List ℕ) → Type 0
OfBranches schema facts plan n row = (branch : Branch) × Contains (take n plan.branches) branch × IsBranchRow schema branch facts row

module _ (schema : Schema) (plan : Plan) (course : Course) (pending : Pending) (p : IsPending schema plan course pending) (its : Branch)
    (at : slice_get plan.branches pending.branch ≡ Some its) where
  same_branch : p.its ≡ its
  same_branch = some_injective p.its its (sym p.of_plan ∙ ap (slice_get plan.branches) (sym p.asks.branch_is) ∙ at)

  -- what the step asks in the branch that was looked up
  pub pending_in : AsksIn schema its course pending
  pending_in = subst (λ (b : Branch). AsksIn schema b course pending) same_branch p.asks

  at_course : slice_get plan.branches course.branch ≡ Some its
  at_course = p.of_plan ∙ ap (λ (b : Branch). Some b) same_branch

  module _ (answers : List RowList) (mid : Course) (g : Grows its pending answers mid) where
    mid_branch : mid.branch ≡ course.branch
    mid_branch = g.branch_is ∙ pending_in.branch_is

    at_mid : slice_get plan.branches mid.branch ≡ Some its
    at_mid = ap (slice_get plan.branches) mid_branch ∙ at_course

    pub mid_stands : Stands plan mid
    mid_stands = subst (λ (o : Option Branch). StandsIn plan mid o) (sym at_mid)
        (grown_within schema its course pending pending_in answers mid g)

    pub taken_at : (next : Course) (n : ℕ) → Settles plan mid next → IsAt plan n course → IsAt plan (n + 1) next
    taken_at next n s is =
        let number = (at_step plan n course its at_course is).number in
        let one : mid.step ≡ course.step + 1 = g.step_is ∙ ap (λ k. k + 1) pending_in.step_is in
        let same : steps_in (take mid.branch plan.branches) ≡ steps_in (take course.branch plan.branches) =
        ap (λ k. steps_in (take k plan.branches)) mid_branch in
        settled_at plan mid next (n + 1) s (omega (arith, number, one, same))

    pub mid_knows : (facts : List Fact) → AnswersFrom facts pending.method pending.wanted.requests answers
        → Knows (meaning_of schema) facts plan course → Knows (meaning_of schema) facts plan mid
    mid_knows facts from k = knows_in (meaning_of schema) facts plan mid its at_mid
        (λ row.
        let rows : mid.rows ≡ course.rows = g.rows_are ∙ pending_in.rows_are in
        let are = k.rows_are row in (
          (λ c. subst (λ n. OfBranches (meaning_of schema) facts plan n row) (sym mid_branch)
              (are.0 (subst (λ (l : RowList). Contains l row) rows c))),
          (λ h. subst (λ (l : RowList). Contains l row) (sym rows)
              (are.1 (subst (λ n. OfBranches (meaning_of schema) facts plan n row) mid_branch h))),
        ))
        (grown_partial schema its course pending pending_in answers mid g facts from
        (knows_at (meaning_of schema) facts plan course its at_course k))
