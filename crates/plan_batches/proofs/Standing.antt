-- What stands between two rounds of a batch, and in the middle of one.
use Rattle.std.proofs.Common.{◌≡◌, ⊎_elim, ℕ, ◌+◌, ◌≤◌, List, [], ◌++◌, length, length-append, Option, None, Some, refl, sym, ◌∙◌, ap, subst, arith}
use Rattle.std.specs.Prelude.{Contains, slice_get}
use Rattle.std.proofs.lemmas.List.{append_cancel_left, nil_from_length}
use Rattle.std.proofs.lemmas.List.Elements.{Contains-append_cases}
use Rattle.std.proofs.lemmas.Option.{slice_get_within}
use Rattle.lists.proofs.Members.{contains_got, contains_none, got_below}
use Rattle.lists.proofs.Places.{got_after, got_member}
use Rattle.meaning.specs.declared.types.Plan.{Plan}
use Rattle.meaning.specs.declared.types.Request.{Request}
use Rattle.meaning.specs.declared.types.SchemaParts.{SchemaParts}
use Rattle.access_schema.specs.declared.schema.Schema.{Schema}
use Rattle.access_schema.specs.Meaning.{meaning_of}
use Rattle.source_trait.specs.Asking.{RowList, Seen}
use Rattle.source_trait.specs.declared.lanes.Lane.{Lane}
use Rattle.source_trait.specs.declared.work.Ask.{Ask}
use Rattle.middleware.specs.Asked.{IsStepRequest}
use Rattle.middleware.specs.LaneRounds.{requests_in, HaveTheirKinds, AsksEach, AreAnswers, NoneStopped}
use Rattle.shared_rounds.specs.SharedRounds.{Turn, turns_of, Once, to_ask, wanted_in}
use Rattle.shared_rounds.specs.Books.{AreNumbers, asked_in}
use Rattle.shared_rounds.specs.declared.book.Book.{Book}
use Rattle.plan_course.specs.Courses.{IsAt, IsBefore}
use Rattle.plan_course.specs.Turns.{AreOfTurn, IsNext, IsPending, asks_of}
use Rattle.plan_course.specs.declared.course.Course.{Course}
use Rattle.plan_course.specs.declared.turns.Next.{Next}
use Rattle.plan_course.specs.declared.turns.Next.TheVariants.{Wants as Asks, Done}
use Rattle.plan_course.specs.declared.turns.Pending.{Pending}
use Rattle.plan_batches.specs.Asking.{WasNext}
use Rattle.plan_course.specs.Courses.{CanNumber}
use Rattle.plan_batches.specs.Batching.{AreOfPlans, IsNumbered}
use Rattle.plan_batches.specs.Each.{Both, Each}
use Rattle.plan_batches.specs.Members.{Takes, Wants}
use Rattle.plan_batches.specs.Naming.{CanName, CanNameBy}
use Rattle.plan_batches.specs.Receiving.{HaveNoBad}
use Rattle.plan_batches.specs.Rounding.{AreReadyPlans, IsStanding, TurnsNoted, turns_by}
use Rattle.plan_batches.specs.declared.member.Member.{Member}
use Rattle.plan_batches.specs.declared.member.Going.{Going}
use Rattle.plan_batches.specs.declared.round.Progress.{Progress}
use Rattle.plan_batches.proofs.Numbering.{numbers_long}
use Rattle.plan_batches.proofs.Wanting.{distinct_asked, more_are, wanted_by, wanted_there}

-- The next round was asked whole, and these are its answers.
pub record RoundAsked (schema : Schema) (plans : List Plan) {S : Type 0} (seen : S → Seen) (cap : ℕ) (old : Progress) (new : Book)
    (before after : List (Lane S)) : Type 0 where
  pub goings : List Going
  pub noted : TurnsNoted schema plans old.members.items old.book new goings
  pub within : length new.asked.items ≤ cap
  pub asks : List Ask
  pub more : new.asked.items ≡ old.book.asked.items ++ asks
  pub asked : AsksEach seen schema (requests_in asks) before after
  pub going : NoneStopped after
  pub answers : List RowList
  pub answered : AreAnswers seen before asks answers

-- Its requests are those that no earlier round asked.
pub round_requests : (schema : Schema) (plans : List Plan) {S : Type 0} (seen : S → Seen) (cap : ℕ) (old : Progress) (new : Book)
    (before after : List (Lane S)) (round : RoundAsked schema plans seen cap old new before after)
    → requests_in round.asks ≡ to_ask Once (asked_in old.book.asked.items) (wanted_in (turns_by round.goings))
round_requests schema plans seen cap old new before after round =
    ap requests_in (append_cancel_left old.book.asked.items round.asks round.noted.onward.0 (sym round.more ∙ round.noted.onward.1))
    ∙ more_are schema plans old.members.items old.book new round.goings round.noted

-- It was asked whole, no step received a bad number, and the answers were taken.
pub record RoundGoes (schema : Schema) (plans : List Plan) {S : Type 0} (seen : S → Seen) (cap : ℕ) (old new : Progress)
    (before after : List (Lane S)) : Type 0 where
  pub whole : RoundAsked schema plans seen cap old new.book before after
  pub no_bad : HaveNoBad schema (old.kept ++ whole.answers) whole.goings
  pub kept : new.kept ≡ old.kept ++ whole.answers
  pub takes : Each (Takes new.kept) plans whole.goings new.members.items

-- the kinds of the last ones
pub kinds_behind : (schema : Schema) (all before more : List Ask) → all ≡ before ++ more → HaveTheirKinds schema all → HaveTheirKinds schema more
kinds_behind schema all before more is kinds k ask at =
    kinds (length before + k) ask (ap (λ (l : List Ask). slice_get l (length before + k)) is ∙ got_after before more k ∙ at)

-- a course that asks is before a step of its plan
numbered_one : (schema : Schema) (plan : Plan) (n : ℕ) (course : Course) (pending : Pending) → IsAt plan n course → IsPending schema plan course pending
    → (turn : Turn) × (slice_get (turns_of plan) n ≡ Some turn) × (pending.branch ≡ turn.branch) × (pending.step ≡ turn.step)
numbered_one schema plan n course pending at is = go (slice_get (turns_of plan) n) refl at.before
  where
    go : (o : Option Turn) → slice_get (turns_of plan) n ≡ o → IsBefore plan o course
        → (turn : Turn) × (slice_get (turns_of plan) n ≡ Some turn) × (pending.branch ≡ turn.branch) × (pending.step ≡ turn.step)
    go None e past = let within = slice_get_within plan.branches course.branch is.its is.of_plan in absurd (omega (arith, within, past))
    go (Some turn) e before = (turn, e, is.asks.branch_is ∙ before.0, is.asks.step_is ∙ before.1)

can_name : (schema : Schema) (plan : Plan) (course : Course) (asked : List Request) (nx : Next) (numbers : List ℕ) → CanNumber plan
    → IsNext schema plan course nx → AreNumbers asked (asks_of nx) numbers → CanNameBy nx numbers
can_name schema plan course asked (Asks pending) numbers can is are =
    let branch = slice_get_within plan.branches course.branch is.its is.of_plan in
    let step = slice_get_within is.its.steps course.step is.asks.step is.asks.of_branch in
    let few = can.0 in
    let short = can.1 is.its (contains_got plan.branches course.branch is.its is.of_plan) in
    let b = is.asks.branch_is in
    let s = is.asks.step_is in
    (omega (arith, branch, few, b), omega (arith, step, short, s))
can_name schema plan course asked (Done same) numbers can is are = nil_from_length numbers (numbers_long asked [] numbers are)

module _ (schema : Schema) (plans : List Plan) (n : ℕ) (old : Progress) (st : IsStanding schema plans n old) where
  abbrev parts : SchemaParts
  parts = meaning_of schema

  module _ (goings : List Going) (wants : Each (Wants schema) plans old.members.items goings) where
    -- the plan at a place, and where its course was
    pub record Place (k : ℕ) (going : Going) : Type 0 where
      pub plan : Plan
      pub member : Member
      pub plan_at : slice_get plans k ≡ Some plan
      pub member_at : slice_get old.members.items k ≡ Some member
      pub at : IsAt plan n member.course
      pub its : Wants schema plan member going

    pub place : (k : ℕ) (going : Going) → slice_get goings k ≡ Some going → Place k going
    place k going got =
        let within = slice_get_within goings k going got in
        let second = wants.second in
        let third = wants.third in
        let (plan, plan_at) = got_below plans k (omega (arith, within, third)) in
        let (member, member_at) = got_below old.members.items k (omega (arith, within, second, third)) in
        record {
          plan = plan;
          member = member;
          plan_at = plan_at;
          member_at = member_at;
          at = st.members.at k plan member plan_at member_at;
          its = wants.at k plan member going plan_at member_at got;
        }

    pub wanted_of_plans : AreOfPlans schema plans (wanted_in (turns_by goings))
    wanted_of_plans request c =
        let (going, of, here) = wanted_by goings request c in
        let (k, got) = got_member goings going of in
        let p = place k going got in
        let (turn, among, is) = one p.plan (asks_of going.next) (slice_get (turns_of p.plan) n) refl (p.its.of_turn n p.at) here in
        (p.plan, turn, contains_got plans k p.plan p.plan_at, among, is)
      where
        one : (plan : Plan) (requests : List Request) (o : Option Turn) → slice_get (turns_of plan) n ≡ o → AreOfTurn parts o requests → Contains requests request
            → (turn : Turn) × Contains (turns_of plan) turn × IsStepRequest parts turn.its request
        one plan requests None e none h = absurd (contains_none request (subst (λ (l : List Request). Contains l request) none h))
        one plan requests (Some turn) e each h = (turn, contains_got (turns_of plan) n turn e, each request h)

    pub numbered : (k : ℕ) (going : Going) → slice_get goings k ≡ Some going → (pending : Pending) → going.next ≡ Asks pending
        → IsNumbered plans k n pending.branch pending.step
    numbered k going got pending is =
        let p = place k going got in
        let asks : IsPending schema p.plan p.member.course pending = subst (λ (x : Next). IsNext schema p.plan p.member.course x) is p.its.goes in
        let (turn, at, branch, step) = numbered_one schema p.plan n p.member.course pending p.at asks in
        record { plan = p.plan; turn = turn; at = p.plan_at; its = at; branch_is = branch; step_is = step }

    pub all_named : AreReadyPlans schema plans → (asked : List Request) → ((going : Going) → Contains goings going → AreNumbers asked (asks_of going.next) going.numbers.items)
        → (going : Going) → Contains goings going → CanName going
    all_named ready asked are going of =
        let (k, got) = got_member goings going of in
        let p = place k going got in
        can_name schema p.plan p.member.course asked going.next going.numbers.items (ready p.plan (contains_got plans k p.plan p.plan_at)).1 p.its.goes (are going of)

  pub was_next : (goings : List Going) → Each (Wants schema) plans old.members.items goings → Both WasNext plans goings
  was_next goings wants = record {
    long = wants.third;
    at = λ k plan going plan_at got.
        let within = slice_get_within plans k plan plan_at in
        let second = wants.second in
        let (member, member_at) = got_below old.members.items k (omega (arith, within, second)) in
        (schema, member.course, (wants.at k plan member going plan_at member_at got).goes);
  }

  module _ (new : Book) (goings : List Going) (noted : TurnsNoted schema plans old.members.items old.book new goings) where
    pub new_of_plans : AreOfPlans schema plans (asked_in new.asked.items)
    new_of_plans request c = ⊎_elim
        (λ l. st.of_plans request l)
        (λ l. wanted_of_plans goings noted.wants request (wanted_there (asked_in old.book.asked.items) (wanted_in (turns_by goings)) request l))
        (Contains-append_cases (asked_in old.book.asked.items) (to_ask Once (asked_in old.book.asked.items) (wanted_in (turns_by goings))) request
        (subst (λ (l : List Request). Contains l request) noted.asked c))

  module _ {S : Type 0} (seen : S → Seen) (cap : ℕ) (new : Progress) (before after : List (Lane S))
      (goes : RoundGoes schema plans seen cap old new before after) where
    abbrev whole : RoundAsked schema plans seen cap old new.book before after
    whole = goes.whole

    pub stands_next : IsStanding schema plans (n + 1) new
    stands_next = record {
      is_book = whole.noted.is_book;
      distinct = distinct_asked schema plans old.members.items old.book new.book whole.goings whole.noted st.distinct;
      kinds = whole.noted.kinds st.kinds;
      of_plans = new_of_plans new.book whole.goings whole.noted;
      kept =
          let first = st.kept in
          let second = whole.answered.len in
          let both = ap length goes.kept in
          let all = ap length whole.more in
          omega (arith, first, second, both, all, length-append old.kept whole.answers, length-append old.book.asked.items whole.asks);
      members = record {
        long = goes.takes.third;
        at = λ k plan member plan_at member_at.
            let within = slice_get_within plans k plan plan_at in
            let second = goes.takes.second in
            let (going, got) = got_below whole.goings k (omega (arith, within, second)) in
            let p = place whole.goings whole.noted.wants k going got in
            let same : p.plan ≡ plan = only p.plan plan k p.plan_at plan_at in
            (goes.takes.at k plan going member plan_at got member_at).course.at schema p.member.course n
            (subst (λ (x : Plan). IsNext schema x p.member.course going.next) same p.its.goes)
            (subst (λ (x : Plan). IsAt x n p.member.course) same p.at);
      };
    }
      where
        only : (x y : Plan) (k : ℕ) → slice_get plans k ≡ Some x → slice_get plans k ≡ Some y → x ≡ y
        only x y k a b = some_same (sym a ∙ b)
          where
            some_same : Some x ≡ Some y → x ≡ y
            some_same e = cc
