-- How a crawl of lanes goes on by a round, ends, and stops.
use Rattle.std.proofs.Common.{◌≡◌, ◌↔◌, ◌∙◌, ◌⊎◌, ◌+◌, ◌<◌, inl, inr, ⊎_elim, ℕ, Bool, List, [], ◌∷◌, ◌++◌, length, length-append, nat_eq, Some, refl, sym, ap, subst, arith}
use Rattle.std.specs.Prelude.{Contains, slice_get, map}
use Rattle.std.proofs.lemmas.Bool.Decides.{nat_tests}
use Rattle.std.proofs.lemmas.List.{length-map, length_push, append-nil}
use Rattle.std.proofs.lemmas.List.Elements.{Contains-append_cases, Contains-append_left, Contains-append_right}
use Rattle.lists.proofs.Members.{contains_none, contains_got, contains_map, contains_mapped, joined_from}
use Rattle.meaning.specs.declared.types.Fact.{Fact}
use Rattle.meaning.specs.declared.types.Request.{Request}
use Rattle.meaning.specs.declared.types.SchemaParts.{SchemaParts}
use Rattle.meaning.specs.Values.{Value, Row}
use Rattle.meaning.specs.Instances.{FitsRelation}
use Rattle.meaning.specs.Crawls.{IsOfMethod, IsPicked, IsCrawlRound}
use Rattle.access_schema.specs.declared.schema.Schema.{Schema}
use Rattle.access_schema.specs.Meaning.{meaning_of}
use Rattle.source_trait.specs.Asking.{RowList, Seen}
use Rattle.source_trait.specs.declared.lanes.Lane.{Lane}
use Rattle.source_trait.specs.declared.work.Ask.{Ask}
use Rattle.middleware.specs.LaneRounds.{requests_in, AsksEach}
use Rattle.middleware.specs.LaneBranches.{OnEach}
use Rattle.middleware.specs.LaneRunning.{IsAttachedTo}
use Rattle.middleware.specs.Held.{HoldsRelation}
use Rattle.middleware.specs.declared.fault.RunFault.{RunFault}
use Rattle.middleware.specs.declared.fault.RunFault.TheVariants as fault
use Rattle.bad_numbers.specs.Numbers.{ReceiveFirstBad, ReceiveIntegers}
use Rattle.bad_numbers.proofs.Received.{integers_none}
use Rattle.middleware.proofs.LaneShares.{AsksEach-refl, AsksEach-trans, AsksSome-none, each_later}
use Rattle.middleware.proofs.LaneBranching.{each_asked}
use Rattle.middleware.proofs.Branching.{relation_later}
use Rattle.crawl_rounds.specs.Rows.{Marked, class_rows}
use Rattle.crawl_rounds.specs.Rounds.{Class, AreClasses, request_of, round_requests}
use Rattle.crawl_rounds.specs.Log.{Answered, requests_of, Log, answers_of, rounds_of, IsGiven, WasGiven, is_begin, IsNextRound, AreOf, IsAmong}
use Rattle.crawl_rounds.proofs.RowMembers.{is_class_row}
use Rattle.crawl_rounds.proofs.Logging.{requests_append, flat_rounds, among_received, next_is_round, log_rounds, log_is_crawl}
use Rattle.crawl.specs.declared.progress.Progress.{Progress}
use Rattle.crawl.specs.Knowing.{marked_of}
use Rattle.crawl.specs.Crawling.{IsReachable, asked_in, LanesHoldReachable, AreOfMethods, HasCrawled, CrawlCause, CrawlHalts}
use Rattle.crawl.specs.Numbers.{BringIntegers, BringFirstBad}
use Rattle.crawl.specs.Progress.{fact_of, facts_of, StandsInAnswers, answered_by, BeginsWith, TakesRound}
use Rattle.crawl.specs.Rounding.{AreOrdered, next_requests, IsLast, RoundAsked, RoundCause, RoundStops}
use Rattle.crawl.specs.Reaching.{HasReached}
use Rattle.crawl.proofs.Knowing.{held_or_not}
use Rattle.crawl.proofs.Marking.{are_known}
use Rattle.crawl.proofs.Gaining.{answered_long}
use Rattle.crawl.proofs.Bringing.{receive_integers, receive_first}
use Rattle.crawl.proofs.Answering.{answered_at, answered_requests, answer_fits, answer_picks}

-- ---- what answers add to a log

given_more : (constants : List Value) (earlier round : List Answered) (v : Value) → IsGiven constants (earlier ++ round) v ↔ (IsGiven constants earlier v ⊎ StandsInAnswers round v)
given_more constants earlier round v = (
  (λ given. ⊎_elim (λ c. inl (inl c)) (λ (a, c, d). ⊎_elim (λ h. inl (inr (a, h, d))) (λ h. inr (a, h, d)) (Contains-append_cases earlier round a c)) given),
  (λ both. ⊎_elim (λ given. ⊎_elim (λ c. inl c) (λ (a, c, d). inr (a, Contains-append_left earlier round a c, d)) given) (λ (a, c, d). inr (a, Contains-append_right earlier round a c, d)) both),
)

among_more : (earlier round : List Answered) (f : Fact) → IsAmong (earlier ++ round) f ↔ (IsAmong earlier f ⊎ IsAmong round f)
among_more earlier round f = (
  (λ (a, c, e, d). ⊎_elim (λ h. inl (a, h, e, d)) (λ h. inr (a, h, e, d)) (Contains-append_cases earlier round a c)),
  (λ both. ⊎_elim (λ (a, c, e, d). (a, Contains-append_left earlier round a c, e, d)) (λ (a, c, e, d). (a, Contains-append_right earlier round a c, e, d)) both),
)

first_is : (log : Log) (n : ℕ) → n ≡ length log → nat_eq n 0 ≡ is_begin log
first_is [] n e = grind (arith, nat_tests, e)
first_is (round ∷ earlier) n e = let some : 0 < n = omega (arith, e) in grind (arith, nat_tests, some)

rounds_long : (log : Log) → length (rounds_of log) ≡ length log
rounds_long [] = refl
rounds_long (round ∷ earlier) = let rest = rounds_long earlier in let push = length_push (rounds_of earlier) (requests_of round) in omega (arith, rest, push)

-- the requests of a round are those of methods
round_of_methods : (schema : SchemaParts) (first : Bool) (values : List Marked) (classes : List Class) → AreClasses schema.methods classes → (request : Request) → Contains (round_requests first values classes) request → IsOfMethod schema request
round_of_methods schema first values classes are request c =
    let (class, among, d) = joined_from (λ (k : Class). map (request_of k) (class_rows first values (length k.1))) classes request c in
    let (row, in_rows, e) = contains_mapped (request_of class) (class_rows first values (length class.1)) request d in
    let (method, of_schema, rel, inputs) = (are.exactly class).0 among in
    let its = is_class_row first values (length class.1) row in_rows in
    subst (IsOfMethod schema) e (record { method = method; of_schema = of_schema; of_relation = sym rel; positions = sym inputs; width = its.long })

-- ---- on lanes

module _ {S : Type 0} (seen : S → Seen) (schema : Schema) where
  abbrev parts : SchemaParts
  parts = meaning_of schema

  reachable : (request : Request) → IsOfMethod parts request → IsReachable schema request.rel
  reachable request of = (of.method, of.of_schema, sym of.of_relation)

  -- requests leave what lanes hold
  held_later : (requests : List Request) (old new : List (Lane S)) → AsksEach seen schema requests old new → (instance : List Fact) → LanesHoldReachable seen schema old instance → LanesHoldReachable seen schema new instance
  held_later requests old new asks instance holds rel is line line_is =
      each_later seen schema (λ kinds. HoldsRelation seen kinds line.kind rel instance) (λ list a b only. relation_later seen schema list a b only line.kind rel instance)
      old new (each_asked seen schema requests old new asks) (holds rel is line line_is)

  -- ---- before the first round

  pub reached_none : (cap : ℕ) (progress : Progress) → BeginsWith schema.constants progress → (lanes : List (Lane S)) → HasReached seen schema cap progress lanes lanes
  reached_none cap progress begin lanes = record {
    log = [];
    is = tt;
    asks = AsksEach-refl seen schema lanes;
    of_methods = λ request c. absurd (contains_none request c);
    going = λ some. absurd (omega (arith, some));
    made = begin.made;
    rounds = begin.rounds;
    few = let m = begin.made in let r = begin.rounds in omega (arith, m, r);
    within_cap = let m = begin.made in omega (arith, m);
    all = λ v. ((λ c. inl ((begin.all v).0 c)), (λ given. (begin.all v).1 (constant v given)));
    fresh = λ v c was. was;
    old_ones = λ v given. inl ((begin.fresh v).1 (constant v given));
    within = record { within = λ v c. (begin.all v).1 ((begin.fresh v).0 c); ascend = begin.ascend };
    facts = λ f. (
      (λ c. absurd (contains_none f (subst (λ l. Contains (map fact_of l) f) begin.received c))),
      (λ (a, c, e, d). absurd (contains_none a c)),
    );
    fits = λ f (a, c, e, d). absurd (contains_none a c);
    integers = λ f (a, c, e, d). absurd (contains_none a c);
    means = λ instance holds a c. absurd (contains_none a c);
  }
    where
      constant : (v : Value) → IsGiven schema.constants [] v → Contains schema.constants v
      constant v given = ⊎_elim (λ c. c) (λ (a, c, d). absurd (contains_none a c)) given

  -- ---- the next round

  module _ (classes : List Class) (are : AreClasses schema.methods classes) (cap : ℕ) (progress : Progress) (old mid : List (Lane S)) (h : HasReached seen schema cap progress old mid) where
    pub next_is : AreOrdered progress.known → IsNextRound parts schema.constants h.log (next_requests classes progress)
    next_is ordered = record {
      values = marked_of progress.known;
      classes = classes;
      known = are_known progress.known (WasGiven schema.constants h.log) (IsGiven schema.constants (answers_of h.log)) ordered h.all h.fresh h.old_ones;
      are = are;
      round_is = ap (λ b. round_requests b (marked_of progress.known) classes) (first_is h.log progress.rounds h.rounds);
    }

    next_of_methods : AreOfMethods seen schema (next_requests classes progress)
    next_of_methods request c = round_of_methods parts (nat_eq progress.rounds 0) (marked_of progress.known) classes are request c

    abbrev asked_so_far : List Request
    asked_so_far = requests_of (answers_of h.log)

    module _ (new : List (Lane S)) (g : RoundAsked seen schema classes cap progress mid new) where
      abbrev round : List Answered
      round = answered_by g.asks g.answers

      round_requests_are : requests_of round ≡ requests_in g.asks
      round_requests_are = answered_requests g.asks g.answers g.answered.len

      all_requests : requests_of (answers_of h.log ++ round) ≡ asked_so_far ++ requests_in g.asks
      all_requests = requests_append (answers_of h.log) round ∙ ap (λ l. asked_so_far ++ l) round_requests_are

      long : length round ≡ length g.asks
      long = answered_long g.asks g.answers g.answered.len

      count : length (requests_of (answers_of h.log ++ round)) ≡ length asked_so_far + length g.asks
      count = ap length all_requests ∙ length-append asked_so_far (requests_in g.asks) ∙ ap (λ n. length asked_so_far + n) (length-map g.asks (λ (a : Ask). a.request))

      of_method : (ask : Ask) (k : ℕ) → slice_get g.asks k ≡ Some ask → IsOfMethod parts ask.request
      of_method ask k at = next_of_methods ask.request (subst (λ l. Contains l ask.request) g.are (contains_map (λ (a : Ask). a.request) g.asks ask (contains_got g.asks k ask at)))

      round_means : (instance : List Fact) → LanesHoldReachable seen schema mid instance → AreOf instance round
      round_means instance holds a c =
          let (k, ask, rows, at, its, e) = answered_at g.asks g.answers a c in
          let of = of_method ask k at in
          subst (λ (b : Answered). (row : Row) → Contains b.rows row ↔ IsPicked instance b.request (record { rel = b.request.rel; row = row })) e
          (answer_picks seen schema mid ask (g.kinds k ask at) rows (g.answered.each k ask rows at its) instance (holds ask.request.rel (reachable ask.request of)) of.width)

      -- what is bad among its answers is bad of what its requests receive
      round_receives : (rel column : ℕ) → BringFirstBad parts round rel column → (instance : List Fact) → LanesHoldReachable seen schema old instance
          → ReceiveFirstBad parts instance (next_requests classes progress) rel column
      round_receives rel column bad instance holds =
          subst (λ r. ReceiveFirstBad parts instance r rel column) (round_requests_are ∙ g.are)
          (receive_first parts instance round (round_means instance (held_later asked_so_far old mid h.asks instance holds)) rel column bad)

      module _ (next : Progress) (integers : BringIntegers parts round) (takes : TakesRound round progress next) (attached : (rel : ℕ) → IsReachable schema rel → OnEach mid (IsAttachedTo seen schema rel)) where
        pub reached_more : HasReached seen schema cap next old new
        reached_more = record {
          log = round ∷ h.log;
          is = (
            subst (IsNextRound parts schema.constants h.log) (sym (round_requests_are ∙ g.are)) (next_is g.ordered),
            (let some = g.some in let l = long in omega (arith, some, l)),
            h.is,
          );
          asks = subst (λ r. AsksEach seen schema r old new) (sym all_requests) (AsksEach-trans seen schema asked_so_far (requests_in g.asks) old mid new h.asks g.asked);
          of_methods = λ request c. ⊎_elim (λ d. h.of_methods request d) (λ d. next_of_methods request (subst (λ l. Contains l request) g.are d)) (Contains-append_cases asked_so_far (requests_in g.asks) request (subst (λ l. Contains l request) all_requests c));
          going = λ some. g.going;
          made = let m = h.made in let t = takes.made in let l = long in let c = count in omega (arith, m, t, l, c);
          rounds = let r = h.rounds in let t = takes.rounds in omega (arith, r, t);
          few = let f = h.few in let t = takes.rounds in let m = takes.made in let s = g.some in let l = long in omega (arith, f, t, m, s, l);
          within_cap = let f = g.fits in let m = takes.made in let l = long in omega (arith, f, m, l);
          all = λ v. (
            (λ c. (given_more schema.constants (answers_of h.log) round v).1 (⊎_elim (λ d. inl ((h.all v).0 d)) (λ s. inr s) ((takes.all v).0 c))),
            (λ given. (takes.all v).1 (⊎_elim (λ d. inl ((h.all v).1 d)) (λ s. inr s) ((given_more schema.constants (answers_of h.log) round v).0 given))),
          );
          fresh = λ v c was. ((takes.fresh v).0 c).1 ((h.all v).1 was);
          old_ones = λ v given. ⊎_elim (λ d. inr d) (λ s. ⊎_elim (λ there. inr ((h.all v).0 there)) (λ none. inl ((takes.fresh v).1 (s, none))) (held_or_not progress.known v)) ((given_more schema.constants (answers_of h.log) round v).0 given);
          within = record { within = λ v c. (takes.all v).1 (inr ((takes.fresh v).0 c).0); ascend = takes.ascend };
          facts = λ f. (
            (λ c. (among_more (answers_of h.log) round f).1 (⊎_elim (λ d. inl ((h.facts f).0 d)) (λ s. inr s) ((takes.facts f).0 c))),
            (λ a. (takes.facts f).1 (⊎_elim (λ d. inl ((h.facts f).1 d)) (λ s. inr s) ((among_more (answers_of h.log) round f).0 a))),
          );
          fits = λ f a. ⊎_elim (λ d. h.fits f d) (λ d. round_fits f d) ((among_more (answers_of h.log) round f).0 a);
          integers = λ f a. ⊎_elim (λ d. h.integers f d) (λ d. integers f d) ((among_more (answers_of h.log) round f).0 a);
          means = λ instance holds a c. ⊎_elim (λ d. h.means instance holds a d) (λ d. round_means instance (held_later asked_so_far old mid h.asks instance holds) a d) (Contains-append_cases (answers_of h.log) round a c);
        }
          where
            round_fits : (f : Fact) → IsAmong round f → FitsRelation parts f.rel f.row
            round_fits f (a, c, rel, has) =
                let (k, ask, rows, at, its, e) = answered_at g.asks g.answers a c in
                let same_rel : ask.request.rel ≡ f.rel = ap (λ (b : Answered). b.request.rel) e ∙ rel in
                subst (λ r. FitsRelation parts r f.row) same_rel
                (answer_fits seen schema mid ask (g.kinds k ask at) rows (g.answered.each k ask rows at its) (attached ask.request.rel (reachable ask.request (of_method ask k at))) f.row
                (subst (λ (l : RowList). Contains l f.row) (sym (ap (λ (b : Answered). b.rows) e)) has))

    -- ---- the end

    pub reached_end : IsLast classes progress → (part : List Fact) → ((fact : Fact) → Contains part fact ↔ Contains (facts_of progress) fact) → HasCrawled seen schema cap part old mid
    reached_end last part same = record {
      requests = asked_so_far;
      asks = h.asks;
      of_methods = h.of_methods;
      within = let m = h.made in let w = h.within_cap in omega (arith, m, w);
      going = h.going;
      means = λ instance holds.
          let of = h.means instance holds in (
            log_is_crawl parts schema.constants instance h.log h.is of (subst (IsNextRound parts schema.constants h.log) last.none (next_is last.ordered)),
            (λ fact.
                let among = among_received instance (answers_of h.log) of fact in (
                  (λ c. among.0 ((h.facts fact).0 ((same fact).0 c))),
                  (λ r. (same fact).1 ((h.facts fact).1 (among.1 r))),
                )),
          );
    }

    of_rounds : AreOfMethods seen schema (asked_in (rounds_of h.log))
    of_rounds request c = h.of_methods request (subst (λ l. Contains l request) (flat_rounds h.log) c)

    -- so far only integers were received at integer columns
    earlier_integers : (instance : List Fact) → LanesHoldReachable seen schema old instance → ReceiveIntegers parts instance (asked_in (rounds_of h.log))
    earlier_integers instance holds = subst (ReceiveIntegers parts instance) (sym (flat_rounds h.log))
        (receive_integers parts instance (answers_of h.log) (h.means instance holds) h.integers)

    pub reached_stop : (why : RunFault) (new : List (Lane S)) → RoundStops seen schema classes cap why progress mid new → CrawlHalts seen schema cap why old new
    reached_stop why new stops = record {
      middle = mid;
      rounds = rounds_of h.log;
      now = next_requests classes progress;
      asks_earlier = subst (λ r. AsksEach seen schema r old mid) (sym (flat_rounds h.log)) h.asks;
      asks_now = stops.asked;
      of_methods = λ request c. ⊎_elim (λ d. of_rounds request d) (λ d. next_of_methods request d) (Contains-append_cases (asked_in (rounds_of h.log)) (next_requests classes progress) request c);
      means = λ instance holds.
          let of = h.means instance holds in (
            log_rounds parts schema.constants instance h.log h.is of,
            (λ some. subst (λ r. IsCrawlRound parts schema.constants instance r (next_requests classes progress)) (sym (flat_rounds h.log))
                (next_is_round parts schema.constants instance h.log (next_requests classes progress) h.is of (next_is stops.ordered))),
          );
      numbers = earlier_integers;
      cause = cause_of why stops.cause;
    }
      where
        count : length (asked_in (rounds_of h.log)) ≡ progress.made
        count = ap length (flat_rounds h.log) ∙ sym h.made

        next_long : (g : RoundAsked seen schema classes cap progress mid new) → length (next_requests classes progress) ≡ length g.asks
        next_long g = ap length (sym g.are) ∙ length-map g.asks (λ (a : Ask). a.request)

        cause_of : (why : RunFault) → RoundCause seen schema classes cap progress (next_requests classes progress) mid new why → CrawlCause seen schema cap (rounds_of h.log) (next_requests classes progress) old mid new why
        cause_of fault.NoMemory c = tt
        cause_of (fault.NoSource rel) c = absurd c
        cause_of (fault.UnknownKind rel) c = absurd c
        cause_of (fault.Attach rel e) c = absurd c
        cause_of (fault.CallFailed branch step) (branch_is, at, fits, (request, among, fails)) = record {
          branch_is = branch_is;
          step_is = at ∙ h.rounds ∙ sym (rounds_long h.log);
          fits = let n = count in omega (arith, n, fits);
          request = request;
          of_round = among;
          fails = fails;
        }
        cause_of (fault.OverCalls made wanted its) (is, made_is, wanted_is, over, same) = record {
          cap_is = is;
          made_is = made_is ∙ sym count;
          wanted_is = wanted_is;
          within = let m = h.within_cap in omega (arith, m, made_is);
          over = over;
          unasked = same;
        }
        cause_of (fault.BadNumber rel column) c = record {
          fits = let n = count in let long = next_long c.round in let fits = c.round.fits in omega (arith, n, long, fits);
          asked = subst (λ r. AsksEach seen schema r mid new) c.round.are c.round.asked;
          going = c.round.going;
          bad = round_receives new c.round rel column c.bad;
        }

    -- there was no memory behind a round
    pub reached_full : CrawlHalts seen schema cap fault.NoMemory old mid
    reached_full = record {
      middle = mid;
      rounds = rounds_of h.log;
      now = [];
      asks_earlier = subst (λ r. AsksEach seen schema r old mid) (sym (flat_rounds h.log)) h.asks;
      asks_now = AsksSome-none seen schema [] mid;
      of_methods = λ request c. of_rounds request (subst (λ l. Contains l request) (append-nil (asked_in (rounds_of h.log))) c);
      means = λ instance holds. (log_rounds parts schema.constants instance h.log h.is (h.means instance holds), (λ some. absurd (omega (arith, some))));
      numbers = earlier_integers;
      cause = tt;
    }

  -- there was no memory before the first round
  pub halts_unbegun : (cap : ℕ) (lanes : List (Lane S)) → CrawlHalts seen schema cap fault.NoMemory lanes lanes
  halts_unbegun cap lanes = record {
    middle = lanes;
    rounds = [];
    now = [];
    asks_earlier = AsksEach-refl seen schema lanes;
    asks_now = AsksSome-none seen schema [] lanes;
    of_methods = λ request c. absurd (contains_none request c);
    means = λ instance holds. (tt, (λ some. absurd (omega (arith, some))));
    numbers = λ instance holds. integers_none parts instance;
    cause = tt;
  }

  -- without a method there is nothing to ask
  pub crawled_none : (cap : ℕ) (lanes : List (Lane S)) → AreClasses schema.methods [] → HasCrawled seen schema cap [] lanes lanes
  crawled_none cap lanes none = record {
    requests = [];
    asks = AsksEach-refl seen schema lanes;
    of_methods = λ request c. absurd (contains_none request c);
    within = omega arith;
    going = λ some. absurd (omega (arith, some));
    means = λ instance holds. (
      record {
        rounds = [];
        are = tt;
        requests_are = refl;
        ended = λ request can. absurd (contains_none (can.0.method.rel, can.0.method.inputs) ((none.exactly (can.0.method.rel, can.0.method.inputs)).1 (can.0.method, can.0.of_schema, refl, refl)));
      },
      (λ fact. ((λ c. absurd (contains_none fact c)), (λ (request, c, picked). absurd (contains_none request c)))),
    );
  }
