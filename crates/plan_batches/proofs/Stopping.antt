-- Why a round of a batch stops.
use Rattle.std.proofs.Common.{◌≡◌, ℕ, ◌+◌, ◌-◌, ◌<◌, ◌≤◌, ◌^◌, min, List, ◌++◌, length, Some, refl, sym, ◌∙◌, ap, subst, arith}
use Rattle.std.specs.Prelude.{slice_get}
use Rattle.std.proofs.lemmas.List.{length-map}
use Rattle.lists.proofs.Members.{got_below, got_mapped, map_got}
use Rattle.meaning.specs.declared.types.Plan.{Plan}
use Rattle.meaning.specs.declared.types.Request.{Request}
use Rattle.access_schema.specs.declared.schema.Schema.{Schema}
use Rattle.access_schema.specs.Meaning.{meaning_of}
use Rattle.source_trait.specs.Asking.{Seen}
use Rattle.source_trait.specs.declared.lanes.Lane.{Lane}
use Rattle.source_trait.specs.declared.work.Ask.{Ask}
use Rattle.bad_numbers.specs.Numbers.{ReceiveIntegers}
use Rattle.middleware.specs.LaneRounds.{requests_in, HaveTheirKinds, AskCause, AsksEach, AsksSome, NoneStopped}
use Rattle.middleware.specs.declared.fault.RunFault.{RunFault}
use Rattle.middleware.specs.declared.fault.RunFault.TheVariants as fault
use Rattle.middleware.specs.declared.lane_round.AskFault.TheVariants as ask
use Rattle.middleware.proofs.LaneShares.{AsksSome-none, each_some}
use Rattle.shared_rounds.specs.SharedRounds.{Once, to_ask, wanted_in}
use Rattle.shared_rounds.specs.Books.{asked_in}
use Rattle.shared_rounds.specs.declared.book.Book.{Book}
use Rattle.plan_course.specs.Turns.{asks_of}
use Rattle.plan_batches.specs.Batching.{CallFails, CapFills, HaltsFor, NumberFails}
use Rattle.plan_batches.specs.Coming.{HasCome}
use Rattle.plan_batches.specs.Each.{Each}
use Rattle.plan_batches.specs.Members.{Wants}
use Rattle.plan_batches.specs.Naming.{FailsFirst, IsFirstGoing}
use Rattle.plan_batches.specs.Receiving.{IsFirstBad}
use Rattle.plan_batches.specs.Rounding.{IsStanding, TurnsNoted, turns_by}
use Rattle.plan_batches.specs.declared.fault.BatchFault.{BatchFault}
use Rattle.plan_batches.specs.declared.member.Going.{Going}
use Rattle.plan_batches.specs.declared.received.FirstBad.{FirstBad}
use Rattle.plan_batches.specs.declared.round.Progress.{Progress}
use Rattle.plan_batches.proofs.Receiving.{bad_at, integers_at}
use Rattle.plan_batches.proofs.Standing.{RoundAsked, kinds_behind, numbered, round_requests}
use Rattle.plan_batches.proofs.Wanting.{distinct_asked, first_with, fresh_same, long_asked, more_are}

module _ {S : Type 0} (seen : S → Seen) (schema : Schema) (plans : List Plan) (cap : ℕ) (old : Progress) where
  -- The plans said what they want in the next round, and it stopped: each of its requests was asked at most once.
  pub record RoundStops (why : BatchFault) (before after : List (Lane S)) : Type 0 where
    pub goings : List Going
    pub wants : Each (Wants schema) plans old.members.items goings
    pub asked : AsksSome seen schema (to_ask Once (asked_in old.book.asked.items) (wanted_in (turns_by goings)))
        before after
    pub cause : (n : ℕ) (first : List (Lane S)) → HasCome seen schema plans first cap n old before
        → HaltsFor seen schema plans cap n (asked_in old.book.asked.items) (turns_by goings) first before after
        why.plan why.fault

  module _ (new : Book) (goings : List Going)
      (noted : TurnsNoted schema plans old.members.items old.book new goings) where
    abbrev fresh : List Request
    fresh = to_ask Once (asked_in old.book.asked.items) (wanted_in (turns_by goings))

    fresh_long : length new.asked.items ≡ length old.book.asked.items + length fresh
    fresh_long =
        let all = long_asked schema plans old.members.items old.book new goings noted in
        let same = ap length (more_are schema plans old.members.items old.book new goings noted) in
        let long = length-map noted.onward.0 (λ (a : Ask). a.request) in
        omega (arith, all, same, long)

    -- the round would pass the cap
    pub stops_over : (why : BatchFault) (lanes : List (Lane S)) → NoneStopped lanes → length old.book.asked.items ≤ cap
        → cap ≤ 1000000
        → cap < length new.asked.items → IsFirstGoing goings why.plan (length old.book.asked.items)
        → why.fault ≡ fault.OverCalls (length old.book.asked.items)
        (min (length new.asked.items - length old.book.asked.items) (2 ^ 32 - 1)) cap
        → RoundStops why lanes lanes
    stops_over why lanes going within few over first is = record {
      goings = goings;
      wants = noted.wants;
      asked = AsksSome-none seen schema fresh lanes;
      cause = λ n begun come. subst (λ (f : RunFault). HaltsFor seen schema plans cap n (asked_in old.book.asked.items)
          (turns_by goings) begun lanes lanes why.plan f) (sym is)
          (fills n come.standing);
    }
      where
        more : length new.asked.items - length old.book.asked.items ≡ length fresh
        more = let l = fresh_long in omega (arith, l)

        fills : (n : ℕ) → IsStanding schema plans n old
            → CapFills seen schema plans cap why.plan (length old.book.asked.items)
            (min (length new.asked.items - length old.book.asked.items) (2 ^ 32 - 1)) cap
            (asked_in old.book.asked.items) (turns_by goings) lanes lanes
        fills n st =
            let long = length-map old.book.asked.items (λ (a : Ask). a.request) in
            let all = fresh_long in
            let (request, at) = got_below fresh 0 (omega (arith, all, within, over)) in
            let here : slice_get (asked_in new.asked.items) (length old.book.asked.items) ≡ Some request =
            ap (slice_get (asked_in new.asked.items)) (omega arith)
            ∙ fresh_same schema plans old.members.items old.book new goings noted 0 ∙ at in
            record {
              cap_is = refl;
              made_is = sym long;
              within = within;
              over = omega (arith, over, within, few);
              wanted_is = ap (λ k. min k (2 ^ 32 - 1)) more;
              request = request;
              at = at;
              first = first_with schema plans old.members.items old.book new goings noted
                  (distinct_asked schema plans old.members.items old.book new goings noted st.distinct) why.plan
                  (length old.book.asked.items) request here first;
              unasked = refl;
              going = going;
            }

    -- not all of the requests were asked, or their answers not taken
    module _ (asks : List Ask) (asks_are : asks ≡ noted.onward.0) (before after : List (Lane S))
        (kinds : HaveTheirKinds schema new.asked.items)
        (within : length new.asked.items ≤ cap) where
      own_kinds : HaveTheirKinds schema asks
      own_kinds = subst (HaveTheirKinds schema) (sym asks_are)
          (kinds_behind schema new.asked.items old.book.asked.items noted.onward.0 noted.onward.1 kinds)

      requests_are : requests_in asks ≡ fresh
      requests_are = ap requests_in asks_are ∙ more_are schema plans old.members.items old.book new goings noted

      -- there was no memory
      pub stops_without : AsksSome seen schema (requests_in asks) before after
          → RoundStops (record { plan = 0; fault = fault.NoMemory }) before after
      stops_without some = record {
        goings = goings;
        wants = noted.wants;
        asked = subst (λ (l : List Request). AsksSome seen schema l before after) requests_are some;
        cause = λ n begun come. refl;
      }

      -- a call failed
      module _ (why : BatchFault) (k : ℕ) (names : FailsFirst goings (length old.book.asked.items + k) why)
          (cause : AskCause seen schema asks (ask.CallFailed k) before after) where
        call_fails : (n : ℕ) → IsStanding schema plans n old
            → CallFails seen schema plans cap n why.plan names.pending.branch names.pending.step
            (asked_in old.book.asked.items) (turns_by goings) before after
        call_fails n st =
            let request = cause.1.ask.request in
            let at : slice_get fresh k ≡ Some request =
            ap (λ (l : List Request). slice_get l k) (sym requests_are)
            ∙ map_got (λ (a : Ask). a.request) asks k cause.1.ask cause.1.at in
            let here : slice_get (asked_in new.asked.items) (length old.book.asked.items + k) ≡ Some request =
            fresh_same schema plans old.members.items old.book new goings noted k ∙ at in
            let long = length-map asks (λ (a : Ask). a.request) in
            let count = ap length requests_are in
            let all = fresh_long in
            let earlier = length-map old.book.asked.items (λ (a : Ask). a.request) in
            record {
              asks = asks;
              are = requests_are;
              kinds = own_kinds;
              fits = omega (arith, long, count, all, earlier, within);
              k = k;
              request = request;
              at = at;
              cause = cause;
              first = first_with schema plans old.members.items old.book new goings noted
                  (distinct_asked schema plans old.members.items old.book new goings noted st.distinct) why.plan
                  (length old.book.asked.items + k) request here names.first;
              numbered = numbered schema plans n old st goings noted.wants why.plan names.first.going names.first.at
                  names.pending names.wants;
            }

        pub stops_failed : AsksSome seen schema (requests_in asks) before after → RoundStops why before after
        stops_failed some = record {
          goings = goings;
          wants = noted.wants;
          asked = subst (λ (l : List Request). AsksSome seen schema l before after) requests_are some;
          cause = λ n begun come.
              subst (λ (f : RunFault). HaltsFor seen schema plans cap n (asked_in old.book.asked.items)
              (turns_by goings) begun before after why.plan f)
              (sym names.fault_is) (call_fails n come.standing);
        }

  -- a step received a bad number
  module _ (new : Book) (before after : List (Lane S)) (round : RoundAsked schema plans seen cap old new before after)
      (bad : FirstBad) (is : IsFirstBad schema (old.kept ++ round.answers) round.goings bad) where
    number_fails : (n : ℕ) (first : List (Lane S)) → HasCome seen schema plans first cap n old before
        → NumberFails seen schema plans cap bad.plan bad.rel bad.column (asked_in old.book.asked.items) (turns_by round.goings)
        first before after
    number_fails n first come =
        let long = length-map old.book.asked.items (λ (a : Ask). a.request) in
        let all = fresh_long new round.goings round.noted in
        let within = round.within in
        record {
          turn = asks_of is.going.next;
          at = map_got (λ (g : Going). asks_of g.next) round.goings bad.plan is.going is.at;
          fits = omega (arith, long, all, within);
          asked = subst (λ (l : List Request). AsksEach seen schema l before after)
              (round_requests schema plans seen cap old new before after round) round.asked;
          going = round.going;
          bad = λ instance holds.
              bad_at seen schema plans first cap n old before come new after round instance holds bad.plan is.going is.at
              bad.rel bad.column is.got;
          before = λ instance holds k other less at.
              let (going, got, same) = got_mapped (λ (g : Going). asks_of g.next) round.goings k other at in
              subst (λ (l : List Request). ReceiveIntegers (meaning_of schema) instance l) same
              (integers_at seen schema plans first cap n old before come new after round instance holds k going got
              (is.before k going less got));
        }

    pub stops_bad : (why : BatchFault) → why ≡ record { plan = bad.plan; fault = fault.BadNumber bad.rel bad.column }
        → RoundStops why before after
    stops_bad why names = subst (λ (w : BatchFault). RoundStops w before after) (sym names) (record {
      goings = round.goings;
      wants = round.noted.wants;
      asked = subst (λ (l : List Request). AsksSome seen schema l before after) (round_requests schema plans seen cap old new before after round)
          (each_some seen schema (requests_in round.asks) before after round.asked);
      cause = number_fails;
    })
