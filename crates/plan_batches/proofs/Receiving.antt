-- What the steps of a round received, on an instance that the lanes hold at the relations of the plans.
use Rattle.std.proofs.Common.{◌≡◌, ◌↔◌, ⊎_elim, ℕ, ◌+◌, ◌-◌, List, ◌++◌, length, length-append, Option, None, Some, refl, sym, ◌∙◌, ap, subst, arith}
use Rattle.std.specs.Prelude.{Contains, MatchOption, slice_get}
use Rattle.std.proofs.lemmas.Bool.{cases_lt}
use Rattle.std.proofs.lemmas.List.{length-map}
use Rattle.lists.proofs.Members.{contains_got, contains_map, contains_none, got_before, got_mapped, some_injective}
use Rattle.lists.proofs.Places.{got_after, got_member}
use Rattle.meaning.specs.declared.types.Fact.{Fact}
use Rattle.meaning.specs.declared.types.Plan.{Plan}
use Rattle.meaning.specs.declared.types.Request.{Request}
use Rattle.meaning.specs.declared.types.SchemaParts.{SchemaParts}
use Rattle.access_schema.specs.declared.schema.Schema.{Schema}
use Rattle.access_schema.specs.Meaning.{meaning_of}
use Rattle.source_trait.specs.Asking.{RowList, Seen, pick}
use Rattle.source_trait.specs.declared.lanes.Lane.{Lane}
use Rattle.source_trait.specs.declared.work.Ask.{Ask}
use Rattle.bad_numbers.specs.Numbers.{FindsBad, ReceiveFirstBad, ReceiveIntegers}
use Rattle.bad_numbers.proofs.Received.{found_of_method, integers_both, integers_none}
use Rattle.middleware.specs.PlanSources.{IsAccessed}
use Rattle.middleware.specs.LaneBranches.{LanesHoldPlan}
use Rattle.shared_rounds.specs.SharedRounds.{Once, Turn, to_ask, turns_of, wanted_in}
use Rattle.shared_rounds.specs.Books.{AreNumbers, asked_in}
use Rattle.shared_rounds.specs.declared.book.Book.{Book}
use Rattle.plan_course.specs.Turns.{AreOfTurn, asks_of}
use Rattle.plan_course.specs.declared.turns.Next.{Next}
use Rattle.plan_course.specs.declared.turns.Next.TheVariants.{Wants as Asks, Done}
use Rattle.plan_course.specs.declared.turns.Pending.{Pending}
use Rattle.plan_batches.specs.Batching.{LanesHoldAll}
use Rattle.plan_batches.specs.Coming.{AreKept, HasCome}
use Rattle.plan_batches.specs.Kept.{AreAnswered, answers_at}
use Rattle.plan_batches.specs.Receiving.{GotBad, GotIntegers, HasIntegers, HaveNoBad, rows_of}
use Rattle.plan_batches.specs.Rounding.{turns_by}
use Rattle.plan_batches.specs.declared.member.Going.{Going}
use Rattle.plan_batches.specs.declared.round.Progress.{Progress}
use Rattle.plan_batches.proofs.Answering.{answers_from}
use Rattle.plan_batches.proofs.Holding.{answer_picks, plan_of_all, relation_of_plan, relation_onward}
use Rattle.plan_batches.proofs.Readying.{step_accesses, step_wide}
use Rattle.plan_batches.proofs.Standing.{RoundAsked, place}
use Rattle.plan_batches.proofs.Wanting.{wanted_by, wanted_there}

-- ---- by the numbers of requests

module _ (schema : Schema) (facts : List Fact) (asked : List Request) (kept : List RowList) (long : length asked ≡ length kept)
    (numbers : List ℕ) where
  -- what is found of the answers is what the requests of a step receive
  found_by : (pending : Pending) → AreNumbers asked (asks_of (Asks pending)) numbers → AreAnswered facts asked kept (asks_of (Asks pending))
      → ((request : Request) → Contains (asks_of (Asks pending)) request → length request.values ≡ length request.positions)
      → (found : Option ℕ) → FindsBad (meaning_of schema) pending.method.rel (rows_of kept numbers) found
      → MatchOption found (ReceiveIntegers (meaning_of schema) facts (asks_of (Asks pending)))
      (ReceiveFirstBad (meaning_of schema) facts (asks_of (Asks pending)) pending.method.rel)
  found_by pending are answered wide found finds =
      let from = answers_from facts pending.method pending.wanted.requests asked kept numbers long are answered in
      found_of_method (meaning_of schema) facts pending.method.rel pending.method.inputs pending.wanted.requests (answers_at kept numbers)
      found from.len from.each (λ values c. wide (request_with values) (contains_map request_with pending.wanted.requests values c)) finds
    where
      request_with : List (List ℕ) → Request
      request_with values = record { rel = pending.method.rel; positions = pending.method.inputs; values = values }

  got_integers : (nx : Next) → AreNumbers asked (asks_of nx) numbers → AreAnswered facts asked kept (asks_of nx)
      → ((request : Request) → Contains (asks_of nx) request → length request.values ≡ length request.positions)
      → GotIntegers schema kept nx numbers → ReceiveIntegers (meaning_of schema) facts (asks_of nx)
  got_integers (Asks pending) are answered wide got = found_by pending are answered wide None got
  got_integers (Done course) are answered wide got = integers_none (meaning_of schema) facts

  got_bad : (nx : Next) → AreNumbers asked (asks_of nx) numbers → AreAnswered facts asked kept (asks_of nx)
      → ((request : Request) → Contains (asks_of nx) request → length request.values ≡ length request.positions)
      → (rel column : ℕ) → GotBad schema kept nx numbers rel column → ReceiveFirstBad (meaning_of schema) facts (asks_of nx) rel column
  got_bad (Asks pending) are answered wide rel column (is, bad) =
      subst (λ r. ReceiveFirstBad (meaning_of schema) facts (asks_of (Asks pending)) r column) (sym is)
      (found_by pending are answered wide (Some column) bad)
  got_bad (Done course) are answered wide rel column got = absurd got

-- ---- in a round that was asked whole

module _ {S : Type 0} (seen : S → Seen) (schema : Schema) (plans : List Plan) (old : List (Lane S)) (cap n : ℕ) (progress : Progress)
    (before : List (Lane S)) (come : HasCome seen schema plans old cap n progress before) (new : Book) (after : List (Lane S))
    (round : RoundAsked schema plans seen cap progress new before after) where
  abbrev parts : SchemaParts
  parts = meaning_of schema

  abbrev kept : List RowList
  kept = progress.kept ++ round.answers

  -- the answer to each request that was asked
  pub kept_more : AreKept seen schema plans old new.asked.items kept
  kept_more k ask rows ask_at rows_at instance holds = ⊎_elim
      (λ l. come.kept k ask rows
      (sym (got_before progress.book.asked.items round.asks k l) ∙ ap (λ (a : List Ask). slice_get a k) (sym round.more) ∙ ask_at)
      (sym (got_before progress.kept round.answers k (let same = come.standing.kept in omega (arith, l, same))) ∙ rows_at)
      instance holds)
      (λ l.
      let place : length progress.book.asked.items + (k - length progress.book.asked.items) ≡ k = omega (arith, l) in
      let same = come.standing.kept in
      let kept_place : length progress.kept + (k - length progress.book.asked.items) ≡ k = omega (arith, l, same) in
      let at : slice_get round.asks (k - length progress.book.asked.items) ≡ Some ask =
      sym (got_after progress.book.asked.items round.asks (k - length progress.book.asked.items)) ∙ ap (slice_get (progress.book.asked.items ++ round.asks)) place
      ∙ ap (λ (a : List Ask). slice_get a k) (sym round.more) ∙ ask_at in
      let its : slice_get round.answers (k - length progress.book.asked.items) ≡ Some rows =
      sym (got_after progress.kept round.answers (k - length progress.book.asked.items)) ∙ ap (slice_get kept) kept_place ∙ rows_at in
      answer_picks seen schema before ask (round.noted.kinds come.standing.kinds k ask ask_at) rows
      (round.answered.each (k - length progress.book.asked.items) ask rows at its)
      instance (relation_onward seen schema (asked_in progress.book.asked.items) old before come.rounds.asks ask.request.rel instance holds))
      (cases_lt k (length progress.book.asked.items))

  -- those to what a plan wanted
  pub answered : (plan : Plan) (going : Going) (k : ℕ) → slice_get round.goings k ≡ Some going → slice_get plans k ≡ Some plan
      → (instance : List Fact) → LanesHoldPlan seen schema plan old instance
      → AreAnswered instance (asked_in new.asked.items) kept (asks_of going.next)
  answered plan going k got plan_at instance holds j request rows c request_at rows_at =
      let (ask, ask_at, same) = got_mapped (λ (a : Ask). a.request) new.asked.items j request request_at in
      let p = place schema plans n progress come.standing round.goings round.noted.wants k going got in
      let only : p.plan ≡ plan = some_injective p.plan plan (sym p.plan_at ∙ plan_at) in
      let accessed : IsAccessed schema plan request.rel = subst (λ (x : Plan). IsAccessed schema x request.rel) only
      (turn_accesses p.plan (slice_get (turns_of p.plan) n) refl (asks_of going.next) (p.its.of_turn n p.at) request c) in
      subst (λ (r : Request). (row : List (List ℕ)) → Contains rows row ↔ Contains (pick instance r.rel r.positions r.values) row) same
      (kept_more j ask rows ask_at rows_at instance
      (relation_of_plan seen schema plan old instance ask.request.rel (subst (λ (r : Request). IsAccessed schema plan r.rel) (sym same) accessed) holds))
    where
      turn_accesses : (x : Plan) (o : Option Turn) → slice_get (turns_of x) n ≡ o → (requests : List Request)
          → AreOfTurn parts o requests → (r : Request) → Contains requests r → IsAccessed schema x r.rel
      turn_accesses x None e requests none r h = absurd (contains_none r (subst (λ (l : List Request). Contains l r) none h))
      turn_accesses x (Some turn) e requests each r h = step_accesses schema x turn (contains_got (turns_of x) n turn e) r (each r h)

  module _ (instance : List Fact) (holds : LanesHoldAll seen schema plans old instance) where
    module _ (k : ℕ) (going : Going) (got : slice_get round.goings k ≡ Some going) where
      answers_its : AreAnswered instance (asked_in new.asked.items) kept (asks_of going.next)
      answers_its =
          let p = place schema plans n progress come.standing round.goings round.noted.wants k going got in
          answered p.plan going k got p.plan_at instance
          (plan_of_all seen schema plans old instance p.plan (contains_got plans k p.plan p.plan_at) holds)

      wide : (request : Request) → Contains (asks_of going.next) request → length request.values ≡ length request.positions
      wide request c =
          let p = place schema plans n progress come.standing round.goings round.noted.wants k going got in
          turn_wide (slice_get (turns_of p.plan) n) (p.its.of_turn n p.at)
        where
          turn_wide : (o : Option Turn) → AreOfTurn parts o (asks_of going.next) → length request.values ≡ length request.positions
          turn_wide None none = absurd (contains_none request (subst (λ (l : List Request). Contains l request) none c))
          turn_wide (Some turn) each = step_wide schema turn request (each request c)

      long : length (asked_in new.asked.items) ≡ length kept
      long =
          let first = come.standing.kept in
          let second = round.answered.len in
          let all = ap length round.more in
          let requests = length-map new.asked.items (λ (a : Ask). a.request) in
          omega (arith, first, second, all, requests, length-append progress.kept round.answers, length-append progress.book.asked.items round.asks)

      pub integers_at : HasIntegers schema kept going → ReceiveIntegers parts instance (asks_of going.next)
      integers_at = got_integers schema instance (asked_in new.asked.items) kept long going.numbers.items going.next
          (round.noted.are going (contains_got round.goings k going got)) answers_its wide

      pub bad_at : (rel column : ℕ) → GotBad schema kept going.next going.numbers.items rel column
          → ReceiveFirstBad parts instance (asks_of going.next) rel column
      bad_at = got_bad schema instance (asked_in new.asked.items) kept long going.numbers.items going.next
          (round.noted.are going (contains_got round.goings k going got)) answers_its wide

    -- where no step received a bad number, all requests so far receive integers
    pub all_integers : HaveNoBad schema kept round.goings → ReceiveIntegers parts instance (asked_in new.asked.items)
    all_integers no_bad = subst (λ (l : List Request). ReceiveIntegers parts instance l) (sym round.noted.asked)
        ((integers_both parts instance earlier (to_ask Once earlier (wanted_in (turns_by round.goings)))).1 (
          come.rounds.numbers instance holds,
          (λ fact (request, c, picked).
              let (going, of, here) = wanted_by round.goings request (wanted_there earlier (wanted_in (turns_by round.goings)) request c) in
              let (k, got) = got_member round.goings going of in
              integers_at k going got (no_bad going of) fact (request, here, picked)),
        ))
      where
        earlier : List Request
        earlier = asked_in progress.book.asked.items
