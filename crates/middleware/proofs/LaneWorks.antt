-- What the requests that one lane asked in a round do to it.
use Rattle.std.proofs.Common.{◌≡◌, ◌≢◌, ◌<◌, ℕ, Bool, true, false, cond, List, [], ◌∷◌, ◌++◌, length, map, Option, None, Some, refl, sym, ◌∙◌, ap, subst, arith}
use Rattle.std.specs.Prelude.{slice_get, option_map, IfSome, IsSomeAnd, Result, Ok, Err}
use Rattle.std.specs.List.{AllByRecursion}
use native.Mathlib.Decide.{ℕ_discrete}
use mathlib.Core.Logic.{dite}
use Rattle.lists.proofs.Members.{some_injective, map_got, got_mapped}
use Rattle.meaning.specs.declared.types.Fact.{Fact}
use Rattle.meaning.specs.declared.types.Request.{Request}
use Rattle.access_schema.specs.declared.schema.Schema.{Schema}
use Rattle.lane_pool.specs.Numbers.{times}
use Rattle.lane_pool.specs.Work.{WorkedBy}
use Rattle.lane_pool.proofs.Totals.{hit-other}
use Rattle.source_trait.specs.Asking.{RowList, Seen, Attached, CallGives, agrees, pick}
use Rattle.source_trait.specs.Lanes.{source_of, AtKind, StepsOn, KindsStay}
use Rattle.source_trait.specs.Works.{Calls, Works}
use Rattle.source_trait.specs.declared.lanes.Kind.{Kind}
use Rattle.source_trait.specs.declared.lanes.Lane.{Lane}
use Rattle.source_trait.specs.declared.source.CallFault.{CallFault}
use Rattle.source_trait.specs.declared.source.CallFault.TheVariants as fault
use Rattle.source_trait.specs.declared.work.Ask.{Ask}
use Rattle.source_trait.specs.declared.work.Asked.{Asked}
use Rattle.source_trait.specs.declared.work.Asked.TheVariants as asked
use Rattle.source_trait.proofs.LaneSteps.{StepsOn-source, KindsStay-refl}
use Rattle.middleware.specs.Attaching.{TellsSame}
use Rattle.middleware.specs.Asked.{AsksLane}
use Rattle.middleware.specs.Rounds.{requests_of}
use Rattle.middleware.specs.Branches.{RoseAt}
use Rattle.middleware.specs.LaneRounds.{requests_in, HasItsKind, HaveTheirKinds, with_request, at_numbers, FailsLast, Gives}
use Rattle.middleware.proofs.Answering.{asked_nothing}
use Rattle.middleware.proofs.LaneRuns.{earlier_source}
use Rattle.middleware.proofs.Laning.{tells_refl, stepped_tells, AsksLane-refl, AsksLane-trans, lane_asked}
use Rattle.middleware.proofs.LaneAnswers.{was_asked, asked_among}

module _ {S : Type 0} (seen : S → Seen) where
  -- ---- one request

  abbrev Called : Ask → Result RowList CallFault → S → S → Type 0
  Called ask result s t = CallGives (seen s) (seen t) ask.request.rel ask.request.positions ask.request.values result

  call_tells : (ask : Ask) (result : Result RowList CallFault) (old new : Lane S) → Calls seen old ask result new → (kind : List ℕ)
      → TellsSame seen (source_of old.kinds.items kind) (source_of new.kinds.items kind)
  call_tells ask result old new calls kind =
      stepped_tells seen ask.kind kind old.kinds.items new.kinds.items (Called ask result)
      (λ s t gives. (gives.held, gives.attached, gives.offers, gives.passes)) calls.steps

  -- what the sources tell stays, but for requests and faults
  works_tells : (ask : Ask) (answer : Asked) (old new : Lane S) → Works seen old ask answer new → (kind : List ℕ)
      → TellsSame seen (source_of old.kinds.items kind) (source_of new.kinds.items kind)
  works_tells ask (asked.Rows rows) old new did kind = call_tells ask (Ok rows) old new did.0 kind
  works_tells ask asked.Failed old new did kind = call_tells ask (Err fault.Failed) old new did.0 kind
  works_tells ask asked.NoMemory old new did kind = call_tells ask (Err fault.NoMemory) old new did.0 kind
  works_tells ask asked.Skipped old new did kind =
      subst (λ (lane : Lane S). TellsSame seen (source_of old.kinds.items kind) (source_of lane.kinds.items kind)) (sym did.1)
      (tells_refl seen (source_of old.kinds.items kind))

  works_stay : (ask : Ask) (answer : Asked) (old new : Lane S) → Works seen old ask answer new
      → KindsStay seen old.kinds.items new.kinds.items
  works_stay ask (asked.Rows rows) old new did = did.0.stays
  works_stay ask asked.Failed old new did = did.0.stays
  works_stay ask asked.NoMemory old new did = did.0.stays
  works_stay ask asked.Skipped old new did = subst (λ (lane : Lane S). KindsStay seen old.kinds.items lane.kinds.items) (sym did.1)
      (KindsStay-refl seen old.kinds.items)

  -- a stopped lane stays as it is
  works_halted : (ask : Ask) (answer : Asked) (old new : Lane S) → Works seen old ask answer new → old.stopped ≡ true → new ≡ old
  works_halted ask (asked.Rows rows) old new did is = let going : old.stopped ≡ false = did.0.going in absurd (cc)
  works_halted ask asked.Failed old new did is = let going : old.stopped ≡ false = did.0.going in absurd (cc)
  works_halted ask asked.NoMemory old new did is = let going : old.stopped ≡ false = did.0.going in absurd (cc)
  works_halted ask asked.Skipped old new did is = did.1

  -- where the last request that was asked failed, the count of its source rose
  pub last_rose : (schema : Schema) (request : Request) (old new : List (Kind S)) → FailsLast seen schema request old new
      → RoseAt seen schema request.rel old new
  last_rose schema request old new last =
      let moved = StepsOn-source last.middle new
      (λ s t. CallGives (seen s) (seen t) request.rel request.positions request.values (Err fault.Failed)) last.line.kind last.fails in
      let (first, was, goes) = earlier_source seen old last.middle last.line.kind moved.before last.asks.stay moved.was in
      record {
        line = last.line;
        line_is = last.line_is;
        rose = record {
          before = first;
          after = moved.after;
          was = was;
          now = moved.now;
          steps = (let rose = moved.steps.failed refl in omega (arith, rose, goes.later));
        };
      }

  module _ (schema : Schema) (ask : Ask) (its : HasItsKind schema ask) (result : Result RowList CallFault) (old new : Lane S)
      (calls : Calls seen old ask result new) where
    -- a call asks the lane these requests, where its source tells so
    call_asks : (list : RowList) → ((s t : S) → Called ask result s t
        → (seen t).asked ≡ option_map (λ told. told ++ requests_of ask.request.rel ask.request.positions list) ((seen s).asked))
        → AsksLane seen schema (requests_of ask.request.rel ask.request.positions list) old.kinds.items new.kinds.items
    call_asks list tells =
        lane_asked seen schema ask.request.rel ask.request.positions list its.line its.line_is old.kinds.items new.kinds.items
        (Called ask result)
        (λ s t gives. record {
          asked = tells s t gives;
          held = gives.held;
          attached = gives.attached;
          offers = gives.offers;
          passes =
              gives.passes;
          faults = gives.faults;
        })
        (subst (λ (kind : List ℕ). StepsOn old.kinds.items new.kinds.items kind (Called ask result)) its.kind calls.steps)

  abbrev asked_by : Ask → Option Asked → List Request
  asked_by ask answer = cond (was_asked answer) (ask.request ∷ []) []

  -- a worked request was asked where its answer tells so
  works_asks : (schema : Schema) (ask : Ask) → HasItsKind schema ask → (answer : Asked) (old new : Lane S)
      → Works seen old ask answer new → AsksLane seen schema (asked_by ask (Some answer)) old.kinds.items new.kinds.items
  works_asks schema ask its (asked.Rows rows) old new did = call_asks schema ask its (Ok rows) old new did.0 (ask.request.values ∷ [])
      (λ s t gives. gives.asks)
  works_asks schema ask its asked.Failed old new did = call_asks schema ask its (Err fault.Failed) old new did.0
      (ask.request.values ∷ []) (λ s t gives. gives.asks)
  works_asks schema ask its asked.NoMemory old new did = call_asks schema ask its (Err fault.NoMemory) old new did.0 []
      (λ s t gives. gives.asks ∙ asked_nothing ((seen s).asked))
  works_asks schema ask its asked.Skipped old new did =
      subst (λ (lane : Lane S). AsksLane seen schema [] old.kinds.items lane.kinds.items) (sym did.1)
      (AsksLane-refl seen schema old.kinds.items)

  -- ---- the requests of one lane, one after another

  module _ (asks : List Ask) (answers : List Asked) where
    abbrev Ran : List ℕ → Lane S → Lane S → Type 0
    Ran ks w u = WorkedBy (Works seen) asks answers ks w u

    run_halted : (ks : List ℕ) (w u : Lane S) → Ran ks w u → w.stopped ≡ true → u ≡ w
    run_halted [] w u same is = sym same
    run_halted (k ∷ ks) w u (ask, answer, next, ask_at, answer_at, did, rest) is =
        let here : next ≡ w = works_halted ask answer w next did is in
        run_halted ks next u rest (ap (λ (lane : Lane S). lane.stopped) here ∙ is) ∙ here

    -- the lane was asked the requests whose answers tell so, in their order
    pub run_asks : (schema : Schema) → HaveTheirKinds schema asks → (ks : List ℕ) (w u : Lane S) → Ran ks w u
        → AsksLane seen schema (at_numbers (requests_in asks) (asked_among answers ks)) w.kinds.items u.kinds.items
    run_asks schema kinds [] w u same = subst (λ (lane : Lane S). AsksLane seen schema [] w.kinds.items lane.kinds.items) same
        (AsksLane-refl seen schema w.kinds.items)
    run_asks schema kinds (k ∷ ks) w u (ask, answer, next, ask_at, answer_at, did, rest) =
        let more = asked_among answers ks in
        subst (λ (told : Option Asked). AsksLane seen schema (at_numbers (requests_in asks) (cond (was_asked told) (k ∷ more) more))
        w.kinds.items u.kinds.items) (sym answer_at)
        (in_front more (was_asked (Some answer)) (AsksLane-trans seen schema (asked_by ask (Some answer)) (at_numbers (requests_in asks) more)
        w.kinds.items next.kinds.items u.kinds.items (works_asks schema ask (kinds k ask ask_at) answer w next did)
        (run_asks schema kinds ks next u rest)))
      where
        in_front : (more : List ℕ) (b : Bool)
            → AsksLane seen schema (cond b (ask.request ∷ []) [] ++ at_numbers (requests_in asks) more) w.kinds.items u.kinds.items
            → AsksLane seen schema (at_numbers (requests_in asks) (cond b (k ∷ more) more)) w.kinds.items u.kinds.items
        in_front more true asks_it =
            subst (λ (found : Option Request). AsksLane seen schema (with_request found (at_numbers (requests_in asks) more))
            w.kinds.items u.kinds.items) (sym (map_got (λ (a : Ask). a.request) asks k ask ask_at)) asks_it
        in_front more false asks_it = asks_it

    -- the rows at a number are those that the source of its kind gives, as it was when the lane began
    pub run_gives : (ks : List ℕ) (w u : Lane S) → Ran ks w u → (k : ℕ) → 0 < times k ks → (ask : Ask) (rows : RowList)
        → slice_get asks k ≡ Some ask → slice_get answers k ≡ Some (asked.Rows rows)
        → AtKind w.kinds.items ask.kind (Gives seen ask.request rows)
    run_gives [] w u same k among ask rows ask_at rows_at = absurd (omega arith)
    run_gives (j ∷ ks) w u (its, answer, next, its_at, answer_at, did, rest) k among ask rows ask_at rows_at = dite (ℕ_discrete j k)
        (λ (same : j ≡ k).
        let is_ask : its ≡ ask = some_injective its ask (sym its_at ∙ ap (slice_get asks) same ∙ ask_at) in
        let is_rows : answer ≡ asked.Rows rows = some_injective answer (asked.Rows rows)
        (sym answer_at ∙ ap (slice_get answers) same ∙ rows_at) in
        here (subst (λ (a : Asked). Works seen w ask a next) is_rows (subst (λ (a : Ask). Works seen w a answer next) is_ask did)))
        (λ (apart : j ≢ k).
        before (source_of w.kinds.items ask.kind) (source_of next.kinds.items ask.kind) (works_tells its answer w next did ask.kind)
        (run_gives ks next u rest k (let z = hit-other k j apart in omega arith) ask rows ask_at rows_at))
      where
        here : Works seen w ask (asked.Rows rows) next → AtKind w.kinds.items ask.kind (Gives seen ask.request rows)
        here works =
            let moved = StepsOn-source w.kinds.items next.kinds.items (Called ask (Ok rows)) ask.kind works.0.steps in
            subst (λ (o : Option S). IsSomeAnd o (Gives seen ask.request rows)) (sym moved.was)
            (record { fits = moved.steps.fits; picks = moved.steps.picks })

        before : (a b : Option S) → TellsSame seen a b → IsSomeAnd b (Gives seen ask.request rows)
            → IsSomeAnd a (Gives seen ask.request rows)
        before None None tells gives = absurd gives
        before None (Some t) tells gives = absurd tells
        before (Some s) None tells gives = absurd tells
        before (Some s) (Some t) tells gives = record {
          fits = subst (λ (f : ℕ → Option Attached). IfSome (f ask.request.rel)
              (λ a. AllByRecursion (λ row. (length row ≡ length a.0) × (agrees ask.request.positions ask.request.values row ≡ true))
              rows)) tells.1 gives.fits;
          picks = subst (λ (held : Option (List Fact)). IfSome held
              (λ facts. rows ≡ pick facts ask.request.rel ask.request.positions ask.request.values)) tells.0 gives.picks;
        }

    -- a request whose call failed is the last that its lane was asked, which was left stopped
    pub run_fails : (schema : Schema) → HaveTheirKinds schema asks → (ks : List ℕ) (w u : Lane S) → Ran ks w u → (k : ℕ) → 0 < times k ks
        → (ask : Ask) → slice_get asks k ≡ Some ask → slice_get answers k ≡ Some asked.Failed
        → FailsLast seen schema ask.request w.kinds.items u.kinds.items × (u.stopped ≡ true)
    run_fails schema kinds [] w u same k among ask ask_at failed_at = absurd (omega arith)
    run_fails schema kinds (j ∷ ks) w u (its, answer, next, its_at, answer_at, did, rest) k among ask ask_at failed_at = dite (ℕ_discrete j k)
        (λ (same : j ≡ k).
        let is_ask : its ≡ ask = some_injective its ask (sym its_at ∙ ap (slice_get asks) same ∙ ask_at) in
        let is_failed : answer ≡ asked.Failed = some_injective answer asked.Failed
        (sym answer_at ∙ ap (slice_get answers) same ∙ failed_at) in
        here (subst (λ (a : Asked). Works seen w ask a next) is_failed (subst (λ (a : Ask). Works seen w a answer next) is_ask did)))
        (λ (apart : j ≢ k).
        let (last, stopped) = run_fails schema kinds ks next u rest k (let z = hit-other k j apart in omega arith) ask ask_at failed_at in (
          record {
            earlier = asked_by its (Some answer) ++ last.earlier;
            middle = last.middle;
            asks = AsksLane-trans seen schema (asked_by its (Some answer)) last.earlier w.kinds.items next.kinds.items last.middle
                (works_asks schema its (kinds j its its_at) answer w next did) last.asks;
            line = last.line;
            line_is = last.line_is;
            fails = last.fails;
          },
          stopped,
        ))
      where
        here : Works seen w ask asked.Failed next → FailsLast seen schema ask.request w.kinds.items u.kinds.items × (u.stopped ≡ true)
        here works =
            let own = kinds k ask ask_at in
            subst (λ (lane : Lane S). FailsLast seen schema ask.request w.kinds.items lane.kinds.items × (lane.stopped ≡ true))
            (sym (run_halted ks next u rest works.1)) (
              record {
                earlier = [];
                middle = w.kinds.items;
                asks = AsksLane-refl seen schema w.kinds.items;
                line = own.line;
                line_is = own.line_is;
                fails = subst (λ (kind : List ℕ). StepsOn w.kinds.items next.kinds.items kind (Called ask (Err fault.Failed)))
                    own.kind works.0.steps;
              },
              works.1,
            )

  -- where each answer is rows, the lane goes on
  pub run_goes : (asks : List Ask) (rows : List RowList) (ks : List ℕ) (w u : Lane S) → Ran asks (map asked.Rows rows) ks w u
      → w.stopped ≡ false → u.stopped ≡ false
  run_goes asks rows [] w u same is = ap (λ (lane : Lane S). lane.stopped) (sym same) ∙ is
  run_goes asks rows (k ∷ ks) w u (ask, answer, next, ask_at, answer_at, did, rest) is =
      let (found, at, same) = got_mapped asked.Rows rows k answer answer_at in
      let works : Works seen w ask (asked.Rows found) next = subst (λ (a : Asked). Works seen w ask a next) (sym same) did in
      run_goes asks rows ks next u rest works.1
