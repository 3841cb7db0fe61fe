-- How far a plan has come: before its rounds, one round more, one that stopped, and all of them.
use Rattle.std.proofs.Common.{◌≡◌, ◌↔◌, inl, inr, ⊎_elim, ℕ, zero, suc, ◌+◌, ◌-◌, ◌^◌, ◌<◌, ◌≤◌, min, List, [], ◌∷◌, ◌++◌, length, length-append, Option, None, Some, refl, sym, ◌∙◌, ap, subst, arith}
use Rattle.std.specs.Prelude.{Contains, MatchOption, Result, Ok, Err, slice_get}
use denote.Ref.{Bor, MutBor}
use Rattle.std.proofs.lemmas.List.{append-nil}
use Rattle.std.proofs.lemmas.List.Elements.{Contains-append_cases}
use Rattle.lists.proofs.Members.{contains_got, contains_none, got_below, some_injective}
use Rattle.meaning.specs.declared.types.Fact.{Fact}
use Rattle.meaning.specs.declared.types.Step.{Step}
use Rattle.meaning.specs.declared.types.Branch.{Branch}
use Rattle.meaning.specs.declared.types.Plan.{Plan}
use Rattle.meaning.specs.declared.types.Request.{Request}
use Rattle.meaning.specs.declared.types.SchemaParts.{SchemaParts}
use Rattle.meaning.specs.Plans.{IsMethod, IsWellFormed}
use Rattle.meaning.specs.Rows.{IsRow}
use Rattle.meaning.specs.Requests.{AreRequests}
use Rattle.access_schema.specs.declared.schema.Schema.{Schema}
use Rattle.access_schema.specs.Meaning.{meaning_of}
use Rattle.access_schema.proofs.Keeping.{well_formed}
use Rattle.source_trait.specs.Asking.{RowList, Seen}
use Rattle.source_trait.specs.declared.lanes.Lane.{Lane}
use Rattle.source_trait.specs.declared.source.CallFault.TheVariants as call
use Rattle.middleware.specs.Asked.{IsStepRequest}
use Rattle.middleware.specs.Branches.{AreAskable}
use Rattle.middleware.specs.LaneBranches.{OnEach, LanesHoldPlan}
use Rattle.middleware.specs.LaneAsking.{AnswersFrom, AsksWanted}
use Rattle.middleware.specs.LaneRounds.{AsksSome, NoneStopped}
use Rattle.middleware.specs.declared.fault.RunFault.{RunFault}
use Rattle.middleware.specs.declared.fault.RunFault.TheVariants as fault
use Rattle.middleware.proofs.LaneShares.{AsksEach-refl, AsksEach-trans, AsksSome-none, each_some}
use Rattle.middleware.proofs.PlanHeld.{plan_held_later}
use Rattle.middleware.proofs.LaneBranching.{askable_steps, each_asked}
use Rattle.bad_numbers.specs.Numbers.{FindsBad, IsBadColumn, ReceiveFirstBad, ReceiveIntegers}
use Rattle.bad_numbers.proofs.Received.{found_of_method, integers_both, integers_none}
use Rattle.request_rounds.specs.Rounds.{AsksSo, Halts, Stops, Went}
use Rattle.request_rounds.specs.Rounds.Stops.{over as past_limit, refused, untaken, unturned}
use Rattle.request_rounds.specs.declared.rounds.Turned.{Turned}
use Rattle.request_rounds.specs.declared.rounds.Reached.{Reached}
use Rattle.request_rounds.specs.declared.rounds.Halt.{Halt}
use Rattle.request_rounds.proofs.Going.{asked_so, went_long}
use Rattle.shared_rounds.specs.SharedRounds.{Anew, AreRounds, Turn, turns_of}
use Rattle.shared_rounds.proofs.Counting.{is_nth}
use Rattle.shared_rounds.proofs.Turning.{alone}
use Rattle.plan_course.specs.Courses.{AreReadyBranches, CanNumber, IsAt, IsBefore, Knows}
use Rattle.plan_course.specs.Turns.{AreOfTurn}
use Rattle.plan_course.specs.declared.course.Course.{Course}
use Rattle.plan_course.specs.declared.turns.Pending.{Pending}
use Rattle.plan_course.proofs.Standing.{IsAtStep, at_step}
use Rattle.plan_execution.specs.PlanRounds.{AreOfPlan, AreRoundsBefore, CallFails, IsRoundAt, IsStepAt, LanesDone, PlanCause, PlanHalts}
use Rattle.plan_execution.specs.Rounding.{AsksTested, CanName, HasCome, MayAsk, Takes, Turns, asks_in, fault_of, rows_in}
use Rattle.plan_execution.specs.declared.asking.StepFault.{StepFault}
use Rattle.plan_execution.specs.declared.asking.StepFault.TheVariants as stop
use Rattle.plan_execution.proofs.Stepping.{asks_long, may_ask, numbers_fit, relation_held, wide}
use Rattle.plan_execution.proofs.Before.{at_round, before_end, before_start, before_turn, rest_asked, rest_unasked}

-- requests of a step of the plan are requests of the plan
of_turns : (schema : SchemaParts) (plan : Plan) (n : ℕ) (o : Option Turn) → slice_get (turns_of plan) n ≡ o
    → (list : List Request)
    → AreOfTurn schema o list → AreOfPlan schema plan list
of_turns schema plan n None e list none request c = absurd
    (contains_none request (subst (λ (l : List Request). Contains l request) none c))
of_turns schema plan n (Some turn) e list each request c =
    let nth = is_nth plan n turn e in (
      nth.branch,
      turn.its,
      contains_got plan.branches turn.branch nth.branch nth.of_plan,
      contains_got
          nth.branch.steps turn.step turn.its nth.of_branch,
      each request c,
    )

-- and so are requests of both lists
of_both : (schema : SchemaParts) (plan : Plan) (first second : List Request) → AreOfPlan schema plan first
    → AreOfPlan schema plan second
    → AreOfPlan schema plan (first ++ second)
of_both schema plan first second a b request c =
    ⊎_elim (a request) (b request) (Contains-append_cases first second request c)

of_neither : (schema : SchemaParts) (plan : Plan) → AreOfPlan schema plan []
of_neither schema plan request c = absurd (contains_none request c)

module _ {S : Type 0} (seen : S → Seen) (schema : Schema) (plan : Plan)
    (ready : AreReadyBranches (meaning_of schema) plan) (cap : ℕ) (old : List (Lane S)) where
  abbrev parts : SchemaParts
  parts = meaning_of schema

  -- ---- before the rounds

  pub come_none : (course : Course) → IsAt plan 0 course → ((instance : List Fact) → Knows parts instance plan course)
      → HasCome schema plan seen cap 0 (record { progress = course; made = 0 }) old old
  come_none course at knows = record {
    at = at;
    list = [];
    asks = AsksEach-refl seen schema old;
    count = refl;
    within = omega arith;
    of_plan = of_neither parts plan;
    knows = λ instance holds. knows instance;
    are = λ instance holds. refl;
    numbers = λ instance holds. integers_none parts instance;
  }

  -- no memory before the rounds
  pub halts_unbegun : PlanHalts seen schema plan cap fault.NoMemory old old
  halts_unbegun = record {
    middle = old;
    earlier = [];
    now = [];
    asks_earlier = AsksEach-refl seen schema old;
    asks_now = AsksSome-none seen schema [] old;
    of_plan = of_neither parts plan;
    part = λ instance holds. rest_unasked parts instance plan (well_formed schema) ready 0 [] (omega arith) refl;
    numbers = λ instance holds. integers_none parts instance;
    cause = record { branch = 0; step = 0; rounds = λ instance holds. inr (refl, before_start parts instance plan) };
  }

  -- ---- behind n rounds

  module _ (n : ℕ) (reached : Reached Course) (before : List (Lane S))
      (come : HasCome schema plan seen cap n reached old before) where
    held : (instance : List Fact) → LanesHoldPlan seen schema plan old instance
        → LanesHoldPlan seen schema plan before instance
    held instance holds = plan_held_later seen schema plan old before
        (each_asked seen schema come.list old before come.asks) instance holds

    module _ (turned : Turned Pending) (turns : Turns schema plan reached.progress turned) where
      abbrev now : List Request
      now = asks_in turned.what

      with_these : AreOfPlan parts plan (come.list ++ now)
      with_these = of_both parts plan come.list now come.of_plan
          (of_turns parts plan n (slice_get (turns_of plan) n) refl now (turns.of_turn n come.at))

      count : turned.wanted ≡ length now
      count = turns.count ∙ sym (asks_long turned.what)

      -- the answers are those of whatever instance the lanes hold
      answered : (answers : List RowList) (after : List (Lane S))
          → AsksWanted seen schema turned.what.method turned.what.wanted.requests (Ok answers) before after
          → (instance : List Fact) → LanesHoldPlan seen schema plan old instance
          → AnswersFrom instance turned.what.method turned.what.wanted.requests answers
      answered answers after asked instance holds = asked.answers instance
          (relation_held schema plan reached.progress turned.what turns.is seen before instance (held instance holds))

      -- so what is found of them is what the requests receive
      received : (answers : List RowList) (after : List (Lane S))
          → AsksWanted seen schema turned.what.method turned.what.wanted.requests (Ok answers) before after
          → (found : Option ℕ) → FindsBad parts turned.what.method.rel (rows_in answers) found
          → (instance : List Fact) → LanesHoldPlan seen schema plan old instance
          → MatchOption found (ReceiveIntegers parts instance now) (ReceiveFirstBad parts instance now turned.what.method.rel)
      received answers after asked found finds instance holds =
          let from = answered answers after asked instance holds in
          found_of_method parts instance turned.what.method.rel turned.what.method.inputs turned.what.wanted.requests answers
          found from.len from.each (wide schema plan reached.progress turned.what turns.is) finds

      -- one round more
      pub come_more : reached.made + turned.wanted ≤ cap → (answers : List RowList) (after : List (Lane S))
          → AsksTested seen schema turned.what.method turned.what.wanted.requests (Ok answers) before after
          → (next : Reached Course) → Takes plan turned.what answers next.progress
          → next.made ≡ reached.made + turned.wanted → HasCome schema plan seen cap (n + 1) next old after
      come_more room answers after (asked, integers) next takes made = record {
        at = takes.at schema reached.progress n turns.is come.at;
        list = come.list ++ now;
        asks = AsksEach-trans seen schema come.list now old before after come.asks asked.asks;
        count = let a = come.count in let b = count in omega (arith, a, b, made, length-append come.list now);
        within = omega (arith, made, room);
        of_plan = with_these;
        knows = λ instance holds. takes.knows schema reached.progress instance turns.is ready (come.knows instance holds)
            (answered answers after asked instance holds);
        are = λ instance holds.
            let one : suc n ≡ n + 1 = omega arith in
            subst (λ m. AreRounds parts instance (plan ∷ []) Anew m (come.list ++ now)) one (
              come.list,
              now ∷ [],
              come.are instance holds,
              (turns.turn n instance come.at (come.knows instance holds), tt),
              ap (λ (l : List Request). come.list ++ l) (sym (append-nil now)),
            );
        numbers = λ instance holds. (integers_both parts instance come.list now).1
            (come.numbers instance holds, received answers after asked None integers instance holds);
      }

      -- ---- a round that stopped

      its : IsAtStep plan n reached.progress turns.is.its
      its = at_step plan n reached.progress turns.is.its turns.is.of_plan come.at

      is_before : (reached.progress.branch ≡ its.turn.branch) × (reached.progress.step ≡ its.turn.step)
      is_before = subst (λ (o : Option Turn). IsBefore plan o reached.progress) its.got come.at.before

      of_its : (request : Request) → Contains now request → IsStepRequest parts its.turn.its request
      of_its = subst (λ (o : Option Turn). AreOfTurn parts o now) its.got (turns.of_turn n come.at)

      round_is : (instance : List Fact) → LanesHoldPlan seen schema plan old instance
          → IsRoundAt parts plan instance its.turn.branch its.turn.step come.list now
      round_is instance holds = at_round parts instance plan n its.turn its.got come.list (come.are instance holds) now
          (turns.turn n instance come.at (come.knows instance holds))

      there : IsStepAt plan its.turn.branch its.turn.step turns.is.its its.turn.its
      there = record {
        of_plan = ap (slice_get plan.branches) (sym is_before.0) ∙ turns.is.of_plan;
        of_branch = ap (slice_get turns.is.its.steps) (sym is_before.1) ∙ its.of_branch;
      }

      named : IsMethod parts its.turn.its.method turned.what.method
      named = subst (λ (x : Step). IsMethod parts x.method turned.what.method)
          (some_injective turns.is.asks.step its.turn.its (sym turns.is.asks.of_branch ∙ its.of_branch)) turns.is.asks.named

      within_cap : reached.made + turned.wanted ≤ cap → length come.list + length now ≤ cap
      within_cap room = let made = come.count in let these = count in omega (arith, room, made, these)

      -- there was no memory
      memory : (after : List (Lane S)) → PlanCause seen schema plan cap come.list now old before after fault.NoMemory
      memory after = record {
        branch = its.turn.branch;
        step = its.turn.step;
        rounds = λ instance holds. inl (round_is instance holds);
      }

      -- a call failed
      failed : reached.made + turned.wanted ≤ cap → (after : List (Lane S))
          → AsksWanted seen schema turned.what.method turned.what.wanted.requests (Err call.Failed) before after
          → PlanCause seen schema plan cap come.list now old before after
          (fault.CallFailed turned.what.branch turned.what.step)
      failed room after asked =
          let branch : its.turn.branch ≡ turned.what.branch = sym (turns.is.asks.branch_is ∙ is_before.0) in
          let step : its.turn.step ≡ turned.what.step = sym (turns.is.asks.step_is ∙ is_before.1) in
          subst (λ k. CallFails seen schema plan cap k turned.what.step come.list now old before after) branch
          (subst (λ k. CallFails seen schema plan cap its.turn.branch k come.list now old before after) step
          (record {
            its_branch = turns.is.its;
            its_step = its.turn.its;
            method = turned.what.method;
            there = there;
            named = named;
            some = let some = asked.some refl in let long = asks_long turned.what in omega (arith, some, long);
            of_step = of_its;
            fits = within_cap room;
            fails = asked.failed refl;
            rounds = round_is;
          }))

      -- a number is bad
      bad_number : reached.made + turned.wanted ≤ cap → (answers : List RowList) (after : List (Lane S))
          → AsksWanted seen schema turned.what.method turned.what.wanted.requests (Ok answers) before after
          → (column : ℕ) → IsBadColumn parts turned.what.method.rel (rows_in answers) column
          → PlanCause seen schema plan cap come.list now old before after (fault.BadNumber turned.what.method.rel column)
      bad_number room answers after asked column bad = record {
        branch = its.turn.branch;
        step = its.turn.step;
        its_branch = turns.is.its;
        its_step = its.turn.its;
        method = turned.what.method;
        there = there;
        named = named;
        of_relation = refl;
        fits = within_cap room;
        asked = asked.asks;
        going = asked.going;
        rounds = round_is;
        bad = received answers after asked (Some column) bad;
      }

      -- the round would pass the limit
      over : (wanted : ℕ) → wanted ≡ min turned.wanted (2 ^ 32 - 1) → cap ≤ 1000000 → NoneStopped before
          → cap < reached.made + turned.wanted
          → PlanCause seen schema plan cap come.list now old before before (fault.OverCalls reached.made wanted cap)
      over wanted is small going past = (
        refl,
        record {
          branch = its.turn.branch;
          step = its.turn.step;
          total_is = come.count;
          within = come.within;
          over = let within = come.within in omega (arith, within, past, small, is);
          wanted_is = is ∙ ap (λ k. min k (2 ^ 32 - 1)) count;
          unasked = refl;
          going = going;
          rounds = round_is;
        },
      )

      halts_for : (why : RunFault) (after : List (Lane S)) → AsksSome seen schema now before after
          → PlanCause seen schema plan cap come.list now old before after why
          → PlanHalts seen schema plan cap why old after
      halts_for why after asks cause = record {
        middle = before;
        earlier = come.list;
        now = now;
        asks_earlier = come.asks;
        asks_now = asks;
        of_plan = with_these;
        part = λ instance holds. rest_asked parts instance plan
            (well_formed schema) ready n its.turn its.got come.list (come.are instance holds) now
            (turns.turn n instance come.at (come.knows instance holds));
        numbers = come.numbers;
        cause = cause;
      }

    -- in which nothing was asked
    halts_unasked : n ≤ length (turns_of plan) → (branch step : ℕ)
        → ((instance : List Fact) → LanesHoldPlan seen schema plan old instance
        → AreRoundsBefore parts plan instance branch step come.list)
        → PlanHalts seen schema plan cap fault.NoMemory old before
    halts_unasked within branch step are = record {
      middle = before;
      earlier = come.list;
      now = [];
      asks_earlier = come.asks;
      asks_now = AsksSome-none seen schema [] before;
      of_plan = of_both parts plan come.list [] come.of_plan (of_neither parts plan);
      part = λ instance holds. rest_unasked parts instance plan (well_formed schema) ready n come.list within
          (come.are instance holds);
      numbers = come.numbers;
      cause = record { branch = branch; step = step; rounds = λ instance holds. inr (refl, are instance holds) };
    }

    halts_before : n < length (turns_of plan) → PlanHalts seen schema plan cap fault.NoMemory old before
    halts_before less =
        let (turn, at) = got_below (turns_of plan) n less in
        halts_unasked (omega (arith, less)) turn.branch turn.step
        (λ instance holds. before_turn parts instance plan n turn at come.list (come.are instance holds))

    -- ---- behind the last round

    module _ (last : n ≡ length (turns_of plan)) where
      requests_are : (instance : List Fact) → LanesHoldPlan seen schema plan old instance
          → AreRequests parts plan instance come.list
      requests_are instance holds = (alone parts instance plan come.list).0
          (subst (λ m. AreRounds parts instance (plan ∷ []) Anew m come.list) last (come.are instance holds))

      pub done_all : (rows : RowList)
          → ((instance : List Fact) → Knows parts instance plan reached.progress → (row : List (List ℕ))
          → Contains rows row ↔ IsRow parts plan instance row)
          → LanesDone seen schema plan rows reached.made old before
      done_all rows exactly = record {
        list = come.list;
        asks = come.asks;
        count = come.count;
        of_plan = come.of_plan;
        rows_are = λ instance holds. exactly instance (come.knows instance holds);
        are = requests_are;
        numbers = come.numbers;
      }

      -- no memory for the rows
      pub halts_full : PlanHalts seen schema plan cap fault.NoMemory old before
      halts_full = halts_unasked (omega (arith, last)) (length plan.branches) 0
          (λ instance holds. before_end parts instance plan come.list (requests_are instance holds))

  -- ---- round by round

  module _ {M N : Type 0} (turn : Course → Result (Turned Pending) M → Type 0)
      (ask : Bor Pending → MutBor (List (Lane S)) → Result (List RowList) StepFault → MutBor (List (Lane S)) → Type 0)
      (take : Pending → List RowList → Result Course N → Type 0)
      (turns : (course : Course) (turned : Turned Pending) → turn course (Ok turned)
      → Turns schema plan course turned)
      (asks : (shown : Bor Pending) (lent : MutBor (List (Lane S))) (result : Result (List RowList) StepFault)
      (left : MutBor (List (Lane S))) → ask shown lent result left
      → AsksTested seen schema shown.now.method shown.now.wanted.requests result lent.now left.now)
      (takes : (pending : Pending) (answers : List RowList) (next : Course) → take pending answers (Ok next)
      → Takes plan pending answers next)
      (course : Course) (at : IsAt plan 0 course) (knows : (its : SchemaParts) (instance : List Fact)
      → IsWellFormed its → AreReadyBranches its plan → Knows its instance plan course)
    where
      abbrev start : Reached Course
      start = record { progress = course; made = 0 }

      asked : (pending : Pending) (before : List (Lane S)) (result : Result (List RowList) StepFault)
          (after : List (Lane S)) → AsksSo ask pending before result after
          → AsksTested seen schema pending.method pending.wanted.requests result before after
      asked = asked_so ask
          (λ pending before result after.
          AsksTested seen schema pending.method pending.wanted.requests result before after)
          asks

      pub come_all : (n : ℕ) (reached : Reached Course) (new : List (Lane S))
          → Went turn ask take cap n start old reached new → HasCome schema plan seen cap n reached old new
      come_all zero reached new (is, same) =
          subst (λ (l : List (Lane S)). HasCome schema plan seen cap 0 reached old l) (sym same)
          (subst (λ (r : Reached Course). HasCome schema plan seen cap 0 r old old) (sym is)
          (come_none course at (λ instance. knows parts instance (well_formed schema) ready)))
      come_all (suc n) reached new (r, middle, went, goes) =
          let one : n + 1 ≡ suc n = omega arith in
          subst (λ m. HasCome schema plan seen cap m reached old new) one
          (come_more n r middle (come_all n r middle went) goes.turned (turns r.progress goes.turned goes.wants.0)
          goes.wants.1 goes.answers new (asked goes.turned.what middle (Ok goes.answers) new goes.asked) reached
          (takes goes.turned.what goes.answers reached.progress goes.taken) goes.made)

      -- no lane is stopped behind a round
      pub going_on : (n : ℕ) (reached : Reached Course) (new : List (Lane S))
          → Went turn ask take cap n start old reached new → NoneStopped old → NoneStopped new
      going_on zero reached new (is, same) going = subst (λ (l : List (Lane S)). NoneStopped l) (sym same) going
      going_on (suc n) reached new (r, middle, went, goes) going =
          (asked goes.turned.what middle (Ok goes.answers) new goes.asked).0.going

      -- the next step may be asked
      pub may_ask_next : (length old ≤ 8) → 0 < length old → cap ≤ 1000000 → NoneStopped old
          → ((its : Branch) → Contains plan.branches its → OnEach old (λ kinds. AreAskable seen schema kinds its.steps))
          → (n : ℕ) (reached : Reached Course) (middle : List (Lane S)) → Went turn ask take cap n start old reached middle
          → (turned : Turned Pending) → turn reached.progress (Ok turned) → reached.made + turned.wanted ≤ cap
          → MayAsk schema seen turned.what middle
      may_ask_next few some small going askable n reached middle went turned t room =
          let long = went_long turn ask take cap start old n reached middle went in
          let is = turns reached.progress turned t in
          let come = come_all n reached middle went in
          record {
            some = (omega (arith, some, long), omega (arith, few, long));
            going = going_on n reached middle went going;
            askable = may_ask schema plan reached.progress turned.what is.is seen middle
                (λ its among. askable_steps seen schema its.steps old middle
                (each_asked seen schema come.list old middle come.asks) (askable its among));
            few = let count = is.count in omega (arith, count, room, small);
            values = wide schema plan reached.progress turned.what is.is;
          }

      module _ (rounds : ℕ) (fits : rounds ≤ length (turns_of plan)) (why : Halt Pending StepFault)
          (new : List (Lane S)) (halts : Halts turn ask take cap rounds start old why new) where
        abbrev before : List (Lane S)
        before = halts.middle

        come : HasCome schema plan seen cap halts.n halts.reached old before
        come = come_all halts.n halts.reached before halts.went

        -- the step that was refused can be numbered
        pub can_name : CanNumber plan → CanName why
        can_name can = go why new halts.stops
          where
            go : (w : Halt Pending StepFault) (l : List (Lane S)) → Stops turn ask take cap halts.reached before w l
                → CanName w
            go w l unturned = tt
            go w l (past_limit turned wanted t past is) = tt
            go w l (refused turned e after wants a) =
                numbers_fit schema plan halts.reached.progress turned.what
                (turns halts.reached.progress turned wants.0).is can
            go w l (untaken turned answers after wants a) = tt

        -- the rounds of the plan stopped
        pub halts_in : cap ≤ 1000000 → (0 < rounds → NoneStopped old)
            → PlanHalts seen schema plan cap (fault_of cap why) old new
        halts_in small going = go why new halts.stops
          where
            less : halts.n < length (turns_of plan)
            less = let l = halts.less in omega (arith, l, fits)

            some : 0 < rounds
            some = let l = halts.less in omega (arith, l)

            go : (w : Halt Pending StepFault) (l : List (Lane S)) → Stops turn ask take cap halts.reached before w l
                → PlanHalts seen schema plan cap (fault_of cap w) old l
            go w l unturned = halts_before halts.n halts.reached before come less
            go w l (past_limit turned wanted t past wanted_is) =
                let is = turns halts.reached.progress turned t in
                halts_for halts.n halts.reached before come turned is
                (fault.OverCalls halts.reached.made wanted cap) before
                (AsksSome-none seen schema (asks_in turned.what) before)
                (over halts.n halts.reached before come turned is wanted wanted_is small
                (going_on halts.n halts.reached before halts.went (going some)) past)
            go w l (refused turned stop.NoMemory after wants a) =
                let is = turns halts.reached.progress turned wants.0 in
                halts_for halts.n halts.reached before come turned is fault.NoMemory after
                (asked turned.what before (Err stop.NoMemory) after a).refused
                (memory halts.n halts.reached before come turned is after)
            go w l (refused turned stop.CallFailed after wants a) =
                let is = turns halts.reached.progress turned wants.0 in
                let its = asked turned.what before (Err stop.CallFailed) after a in
                halts_for halts.n halts.reached before come turned is
                (fault.CallFailed turned.what.branch turned.what.step) after its.refused
                (failed halts.n halts.reached before come turned is wants.1 after its)
            go w l (refused turned (stop.BadNumber column) after wants a) =
                let is = turns halts.reached.progress turned wants.0 in
                let (answers, its, bad) = asked turned.what before (Err (stop.BadNumber column)) after a in
                halts_for halts.n halts.reached before come turned is
                (fault.BadNumber turned.what.method.rel column) after
                (each_some seen schema (asks_in turned.what) before after its.asks)
                (bad_number halts.n halts.reached before come turned is wants.1 answers after its column bad)
            go w l (untaken turned answers after wants a) =
                let is = turns halts.reached.progress turned wants.0 in
                halts_for halts.n halts.reached before come turned is fault.NoMemory after
                (each_some seen schema (asks_in turned.what) before after
                (asked turned.what before (Ok answers) after a).0.asks)
                (memory halts.n halts.reached before come turned is after)
