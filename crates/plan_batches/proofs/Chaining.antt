-- The rounds of a batch, asked one after another: how far they come, and why they stop.
use Rattle.std.proofs.Common.{◌≡◌, ℕ, zero, suc, ◌+◌, ◌-◌, ◌^◌, ◌<◌, ◌≤◌, min, List, [], ◌++◌, length, refl, sym, ◌∙◌, ap, subst, arith}
use Rattle.std.specs.Prelude.{Result, Ok, Err}
use denote.Ref.{Bor, MutBor}
use Rattle.meaning.specs.declared.types.Plan.{Plan}
use Rattle.access_schema.specs.declared.schema.Schema.{Schema}
use Rattle.source_trait.specs.Asking.{RowList, Seen}
use Rattle.source_trait.specs.declared.lanes.Lane.{Lane}
use Rattle.middleware.specs.LaneBranches.{OnEach}
use Rattle.middleware.specs.LaneRounds.{requests_in, AsksSome, NoneStopped}
use Rattle.middleware.specs.LaneRunning.{IsAttachedTo}
use Rattle.middleware.specs.declared.fault.RunFault.TheVariants as fault
use Rattle.middleware.specs.declared.lane_round.AskFault.TheVariants as ask_fault
use Rattle.middleware.proofs.LaneShares.{each_some}
use Rattle.request_rounds.specs.Rounds.{AsksSo, Halts, Stops, Went}
use Rattle.request_rounds.specs.Rounds.Stops.{over as past_limit, refused, untaken, unturned}
use Rattle.request_rounds.specs.declared.rounds.Turned.{Turned}
use Rattle.request_rounds.specs.declared.rounds.Reached.{Reached}
use Rattle.request_rounds.specs.declared.rounds.Halt.{Halt}
use Rattle.request_rounds.proofs.Going.{went_long}
use Rattle.shared_rounds.specs.Books.{IsBook, asked_in}
use Rattle.shared_rounds.specs.declared.book.Book.{Book}
use Rattle.plan_batches.specs.Asking.{AsksNoted, HasTaken, MayAskNoted, MayTake, asks_in}
use Rattle.plan_batches.specs.Batching.{NeedsOf, RoundsHalt}
use Rattle.plan_batches.specs.Coming.{HasCome}
use Rattle.plan_batches.specs.Each.{Both}
use Rattle.plan_batches.specs.Members.{Begins}
use Rattle.plan_batches.specs.Naming.{CanNameHalt, FailsFirst, IsFirstGoing, NamesHalt}
use Rattle.plan_batches.specs.Receiving.{IsFirstBad}
use Rattle.plan_batches.specs.Rounding.{AreReadyPlans, MayNote, NotesRound}
use Rattle.plan_batches.specs.declared.fault.BatchFault.{BatchFault}
use Rattle.plan_batches.specs.declared.round.Noted.{Noted}
use Rattle.plan_batches.specs.declared.round.NotedFault.{NotedFault}
use Rattle.plan_batches.specs.declared.round.NotedFault.TheVariants as noted_fault
use Rattle.plan_batches.specs.declared.round.Progress.{Progress}
use Rattle.plan_batches.proofs.Coming.{come_more, come_none, halts_behind, halts_in}
use Rattle.plan_batches.proofs.Going.{asks_are, asks_kinds, first_refused, goings_named, has_first, may_ask, may_take, round_asked, round_goes}
use Rattle.plan_batches.proofs.Holding.{attached_onward}
use Rattle.plan_batches.proofs.Readying.{line_there}
use Rattle.plan_batches.proofs.Stopping.{stops_bad, stops_failed, stops_over, stops_without}

abbrev no_memory : BatchFault
no_memory = record { plan = 0; fault = fault.NoMemory }

module _ {S : Type 0} (seen : S → Seen) (schema : Schema) (plans : List Plan) (ready : AreReadyPlans schema plans)
    (old : List (Lane S)) (cap : ℕ)
    (small : cap ≤ 1000000)
    {M N : Type 0} (turn : Progress → Result (Turned Noted) M → Type 0)
    (ask : Bor Noted → MutBor (List (Lane S)) → Result (List RowList) NotedFault → MutBor (List (Lane S)) → Type 0)
    (take : Noted → List RowList → Result Progress N → Type 0)
    (notes : (progress : Progress) (turned : Turned Noted) → turn progress (Ok turned)
    → NotesRound schema plans progress turned)
    (asked : (noted : Noted) (before : List (Lane S)) (result : Result (List RowList) NotedFault) (after : List (Lane S))
    → AsksSo ask noted before result after → AsksNoted seen schema noted result before after)
    (takes : (noted : Noted) (answers : List RowList) (next : Progress) → take noted answers (Ok next)
    → HasTaken plans noted answers next)
    (first : Progress) (is_book : IsBook first.book) (empty : first.book.asked.items ≡ []) (none : first.kept ≡ [])
    (begins : Both Begins plans first.members.items)
  where
    abbrev start : Reached Progress
    start = record { progress = first; made = 0 }

    -- the requests that were made are those of the book
    made_all : (n : ℕ) (reached : Reached Progress) (new : List (Lane S))
        → Went turn ask take cap n start old reached new
        → reached.made ≡ length reached.progress.book.asked.items
    made_all zero reached new (is, same) =
        subst (λ (r : Reached Progress). r.made ≡ length r.progress.book.asked.items) (sym is) (sym (ap length empty))
    made_all (suc n) reached new (r, middle, went, goes) =
        let before = made_all n r middle went in
        let its = notes r.progress goes.turned goes.wants.0 in
        let same = ap (λ (b : Book). length b.asked.items)
        (takes goes.turned.what goes.answers reached.progress goes.taken).book_is in
        let count = its.count in
        let made = its.made in
        let more = goes.made in
        omega (arith, before, same, count, made, more)

    -- with those of a round that there is room for, they stay below the cap
    room : (n : ℕ) (reached : Reached Progress) (before : List (Lane S))
        → Went turn ask take cap n start old reached before
        → (turned : Turned Noted) → turn reached.progress (Ok turned) → reached.made + turned.wanted ≤ cap
        → length turned.what.book.asked.items ≤ cap
    room n reached before went turned t fits =
        let all = made_all n reached before went in
        let its = notes reached.progress turned t in
        let count = its.count in
        let made = its.made in
        omega (arith, all, count, made, fits)

    pub come_all : (n : ℕ) (reached : Reached Progress) (new : List (Lane S))
        → Went turn ask take cap n start old reached new
        → HasCome seen schema plans old cap n reached.progress new
    come_all zero reached new (is, same) =
        subst (λ (l : List (Lane S)). HasCome seen schema plans old cap 0 reached.progress l) (sym same)
        (subst (λ (r : Reached Progress). HasCome seen schema plans old cap 0 r.progress old) (sym is)
        (come_none seen schema plans old cap first is_book empty none ready begins))
    come_all (suc n) reached new (r, middle, went, goes) =
        let one : n + 1 ≡ suc n = omega arith in
        let come = come_all n r middle went in
        let its = notes r.progress goes.turned goes.wants.0 in
        let asks = asked goes.turned.what middle (Ok goes.answers) new goes.asked in
        subst (λ m. HasCome seen schema plans old cap m reached.progress new) one
        (come_more seen schema plans old cap n r.progress middle come reached.progress new
        (round_goes schema plans n r.progress come.standing goes.turned its seen cap middle new
        (room n r middle went goes.turned goes.wants.0 goes.wants.1)
        goes.answers asks.0 asks.1 reached.progress
        (takes goes.turned.what goes.answers reached.progress goes.taken)) ready)

    -- no lane is stopped behind a round
    pub going_on : (n : ℕ) (reached : Reached Progress) (new : List (Lane S))
        → Went turn ask take cap n start old reached new
        → NoneStopped old → NoneStopped new
    going_on zero reached new (is, same) going = subst (λ (l : List (Lane S)). NoneStopped l) (sym same) going
    going_on (suc n) reached new (r, middle, went, goes) going =
        (asked goes.turned.what middle (Ok goes.answers) new goes.asked).0.going

    -- ---- the next round

    module _ (some : 0 < length old) (attached : (rel : ℕ) → NeedsOf schema plans rel
        → OnEach old (IsAttachedTo seen schema rel))
        (n : ℕ) (reached : Reached Progress) (before : List (Lane S))
        (went : Went turn ask take cap n start old reached before) where
      pub may_note : MayNote schema plans reached.progress
      may_note = record {
        ready = ready;
        standing = (n, (come_all n reached before went).standing);
        lines = line_there schema seen plans old attached some;
      }

      module _ (turned : Turned Noted) (t : turn reached.progress (Ok turned))
          (fits : reached.made + turned.wanted ≤ cap) where
        pub may_ask_next : length old ≤ 8 → length plans < 2 ^ 32 → MayAskNoted seen turned.what before
        may_ask_next few short =
            let long = went_long turn ask take cap start old n reached before went in
            let come = come_all n reached before went in
            let within = room n reached before went turned t fits in
            may_ask schema plans n reached.progress come.standing turned (notes reached.progress turned t) seen before
            (omega (arith, some, long), omega (arith, few, long))
            (λ rel need. attached_onward seen schema (asked_in reached.progress.book.asked.items) old before
            come.rounds.asks rel (attached rel need))
            (omega (arith, within, small)) short

        pub may_take_next : (answers : List RowList) (after : List (Lane S))
            → AsksSo ask turned.what before (Ok answers) after
            → MayTake plans turned.what answers
        may_take_next answers after a =
            may_take schema plans n reached.progress (come_all n reached before went).standing turned
            (notes reached.progress turned t)
            ready answers (asked turned.what before (Ok answers) after a).0.are.len

    -- ---- rounds that stopped

    module _ (rounds : ℕ) (why : Halt Noted NotedFault) (new : List (Lane S))
        (halts : Halts turn ask take cap rounds start old why new) where
      abbrev reached : Reached Progress
      reached = halts.reached

      abbrev before : List (Lane S)
      before = halts.middle

      come : HasCome seen schema plans old cap halts.n reached.progress before
      come = come_all halts.n reached before halts.went

      made_is : reached.made ≡ length reached.progress.book.asked.items
      made_is = made_all halts.n reached before halts.went

      -- a plan can be named
      pub can_name : length plans < 2 ^ 32 → CanNameHalt why
      can_name few = go why new halts.stops
        where
          go : (w : Halt Noted NotedFault) (l : List (Lane S)) → Stops turn ask take cap reached before w l
              → CanNameHalt w
          go w l unturned = tt
          go w l (past_limit turned wanted t past is) =
              let its = notes reached.progress turned t in
              let all = made_is in
              let made = its.made in
              let count = its.count in
              let within = come.within in
              has_first schema plans halts.n reached.progress come.standing turned its few reached.made
              (omega (arith, all, within, small)) (omega (arith, all, made))
              (omega (arith, all, made, count, past, within))
          go w l (refused turned (noted_fault.NotAsked ask_fault.NoMemory) after wants a) = tt
          go w l (refused turned (noted_fault.NotAsked (ask_fault.CallFailed k)) after wants a) =
              let its = notes reached.progress turned wants.0 in
              let within = room halts.n reached before halts.went turned wants.0 wants.1 in
              let asks = asked turned.what before (Err (noted_fault.NotAsked (ask_fault.CallFailed k))) after a in
              let kinds = asks_kinds schema plans halts.n reached.progress come.standing turned its in
              let fails = (asks.cause kinds).1 in (
                first_refused schema plans halts.n reached.progress come.standing turned its few
                    (omega (arith, within, small)) k fails.ask fails.at,
                goings_named schema plans halts.n reached.progress come.standing turned its ready,
              )
          go w l (refused turned (noted_fault.BadNumber bad) after wants a) = tt
          go w l (untaken turned answers after wants a) = tt

      -- the rounds of the plans stopped
      pub halts_for : (0 < rounds → NoneStopped old) → (named : BatchFault) → NamesHalt cap why named
          → RoundsHalt seen schema plans cap named old new
      halts_for going named names = go why new halts.stops names
        where
          -- in the requests of the round, or in their answers
          without : (turned : Turned Noted) → turn reached.progress (Ok turned) → reached.made + turned.wanted ≤ cap
              → (after : List (Lane S))
              → AsksSome seen schema (requests_in (asks_in turned.what)) before after → named ≡ no_memory
              → RoundsHalt seen schema plans cap named old after
          without turned t fits after some is =
              let its = notes reached.progress turned t in
              subst (λ w. RoundsHalt seen schema plans cap w old after) (sym is)
              (halts_in seen schema plans old cap halts.n reached.progress before come no_memory after
              (stops_without seen schema plans cap reached.progress turned.what.book turned.what.goings.items its.noted
              (asks_in turned.what)
              (asks_are schema plans halts.n reached.progress come.standing turned its) before after
              (its.noted.kinds come.standing.kinds)
              (room halts.n reached before halts.went turned t fits) some))

          go : (w : Halt Noted NotedFault) (l : List (Lane S)) → Stops turn ask take cap reached before w l
              → NamesHalt cap w named
              → RoundsHalt seen schema plans cap named old l
          go w l unturned is = halts_behind seen schema plans old cap halts.n reached.progress before come named is
          go w l (past_limit turned wanted t past wanted_is) (plan_is, fault_is) =
              let its = notes reached.progress turned t in
              let all = made_is in
              let made = its.made in
              let count = its.count in
              let less = halts.less in
              let more : turned.wanted
              ≡ length turned.what.book.asked.items - length reached.progress.book.asked.items =
              omega (arith, made, count) in
              halts_in seen schema plans old cap halts.n reached.progress before come named before
              (stops_over seen schema plans cap reached.progress turned.what.book turned.what.goings.items its.noted
              named
              before
              (going_on halts.n reached before halts.went (going (omega (arith, less)))) come.within small
              (omega (arith, all, made, count, past))
              (subst (λ m. IsFirstGoing turned.what.goings.items named.plan m) all plan_is)
              (fault_is ∙ (λ i. fault.OverCalls (all i) ((wanted_is ∙ ap (λ k. min k (2 ^ 32 - 1)) more) i) cap)))
          go w l (refused turned (noted_fault.NotAsked ask_fault.NoMemory) after wants a) is =
              let its = notes reached.progress turned wants.0 in
              without turned wants.0 wants.1 after
              ((asked turned.what before (Err (noted_fault.NotAsked ask_fault.NoMemory)) after a).asks
              (asks_kinds schema plans halts.n reached.progress come.standing turned its)) is
          go w l (refused turned (noted_fault.BadNumber bad) after wants a) is =
              let its = notes reached.progress turned wants.0 in
              let (answers, asks, first) = asked turned.what before (Err (noted_fault.BadNumber bad)) after a in
              halts_in seen schema plans old cap halts.n reached.progress before come named after
              (stops_bad seen schema plans cap reached.progress turned.what.book before after
              (round_asked schema plans halts.n reached.progress come.standing turned its seen cap before after
              (room halts.n reached before halts.went turned wants.0 wants.1) answers asks turned.what.book refl)
              bad
              (subst (λ (l : List RowList). IsFirstBad schema (l ++ answers) turned.what.goings.items bad) its.kept first)
              named is)
          go w l (refused turned (noted_fault.NotAsked (ask_fault.CallFailed k)) after wants a) fails =
              let its = notes reached.progress turned wants.0 in
              let asks = asked turned.what before (Err (noted_fault.NotAsked (ask_fault.CallFailed k))) after a in
              let kinds = asks_kinds schema plans halts.n reached.progress come.standing turned its in
              halts_in seen schema plans old cap halts.n reached.progress before come named after
              (stops_failed seen schema plans cap reached.progress turned.what.book turned.what.goings.items its.noted
              (asks_in turned.what)
              (asks_are schema plans halts.n reached.progress come.standing turned its) before after
              (its.noted.kinds come.standing.kinds)
              (room halts.n reached before halts.went turned wants.0 wants.1)
              named k (subst (λ m. FailsFirst turned.what.goings.items (m + k) named) its.made fails)
              (asks.cause kinds) (asks.asks kinds))
          go w l (untaken turned answers after wants a) is =
              let its = notes reached.progress turned wants.0 in
              without turned wants.0 wants.1 after
              (each_some seen schema (requests_in (asks_in turned.what)) before after
              ((asked turned.what before (Ok answers) after a).0.asks
              (asks_kinds schema plans halts.n reached.progress come.standing turned its))) is
