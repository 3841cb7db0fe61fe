-- How far a batch has come: before its rounds, one round more, and one that stopped.
use Rattle.std.proofs.Common.{◌≡◌, inl, inr, ℕ, suc, ◌+◌, List, [], ◌∷◌, ◌++◌, length, Some, refl, sym, ◌∙◌, ap, subst, arith}
use Rattle.std.specs.Prelude.{Contains, slice_get}
use Rattle.std.proofs.lemmas.List.{append-nil, length-map, map-append}
use Rattle.std.proofs.lemmas.Option.{slice_get_within}
use Rattle.lists.proofs.Members.{contains_got, contains_none, got_below, got_mapped}
use Rattle.meaning.specs.declared.types.Fact.{Fact}
use Rattle.meaning.specs.declared.types.Plan.{Plan}
use Rattle.meaning.specs.declared.types.Request.{Request}
use Rattle.meaning.specs.declared.types.SchemaParts.{SchemaParts}
use Rattle.meaning.specs.Search.{AreDistinct}
use Rattle.access_schema.specs.declared.schema.Schema.{Schema}
use Rattle.access_schema.specs.Meaning.{meaning_of}
use Rattle.access_schema.proofs.Keeping.{well_formed}
use Rattle.source_trait.specs.Asking.{RowList, Seen}
use Rattle.source_trait.specs.declared.lanes.Lane.{Lane}
use Rattle.source_trait.specs.declared.work.Ask.{Ask}
use Rattle.middleware.specs.LaneBranches.{LanesHoldPlan}
use Rattle.middleware.specs.LaneRounds.{requests_in, AsksEach}
use Rattle.middleware.proofs.LaneShares.{AsksEach-refl, AsksEach-trans, AsksSome-none}
use Rattle.shared_rounds.specs.SharedRounds.{Anew, AreRounds, AreTurns, IsTurn, Once, to_ask, wanted_in}
use Rattle.shared_rounds.specs.Books.{AreNumbers, IsBook, asked_in}
use Rattle.plan_course.specs.Turns.{asks_of}
use Rattle.plan_batches.specs.Batching.{LanesHoldAll, RoundsHalt}
use Rattle.plan_batches.specs.Coming.{HasWanted, AreKept, HasCome}
use Rattle.plan_batches.specs.Each.{Both, Each}
use Rattle.plan_batches.specs.Kept.{AreAnswered}
use Rattle.plan_batches.specs.Members.{Begins, Wants}
use Rattle.plan_batches.specs.Rounding.{AreReadyPlans, IsStanding, turns_by}
use Rattle.plan_batches.specs.declared.fault.BatchFault.{BatchFault}
use Rattle.plan_batches.specs.declared.member.Member.{Member}
use Rattle.plan_batches.specs.declared.member.Going.{Going}
use Rattle.plan_batches.specs.declared.round.Progress.{Progress}
use Rattle.middleware.specs.declared.fault.RunFault.TheVariants as fault
use Rattle.plan_batches.proofs.Holding.{plan_of_all}
use Rattle.plan_batches.proofs.Noting.{numbers_onward}
use Rattle.plan_batches.proofs.Numbering.{numbers_both}
use Rattle.plan_batches.proofs.Pairing.{zipped}
use Rattle.plan_batches.proofs.Receiving.{all_integers, answered, kept_more}
use Rattle.plan_batches.proofs.Standing.{RoundAsked, RoundGoes, round_requests, stands_next, wanted_of_plans}
use Rattle.plan_batches.proofs.Stopping.{RoundStops}

module _ {S : Type 0} (seen : S → Seen) (schema : Schema) (plans : List Plan) (old : List (Lane S)) (cap : ℕ) where
  abbrev parts : SchemaParts
  parts = meaning_of schema

  -- ---- before the rounds

  pub come_none : (progress : Progress) → IsBook progress.book → progress.book.asked.items ≡ [] → progress.kept ≡ [] → AreReadyPlans schema plans
      → Both Begins plans progress.members.items → HasCome seen schema plans old cap 0 progress old
  come_none progress is none empty ready begins = record {
    standing = record {
      is_book = is;
      distinct = subst (λ (l : List Ask). AreDistinct (asked_in l)) (sym none) tt;
      kinds = λ k ask at. absurd (no_ask k ask (ap (λ (l : List Ask). slice_get l k) (sym none) ∙ at));
      of_plans = λ request c. absurd (contains_none request (subst (λ (l : List Ask). Contains (asked_in l) request) none c));
      kept = ap length empty ∙ ap length (sym none);
      members = record { long = begins.long; at = λ k plan member is at. (begins.at k plan member is at).at };
    };
    rounds = record {
      asks = subst (λ (l : List Ask). AsksEach seen schema (asked_in l) old old) (sym none) (AsksEach-refl seen schema old);
      of_plans = λ request c. absurd (contains_none request (subst (λ (l : List Ask). Contains (asked_in l) request) none c));
      are = λ instance holds. ap asked_in none;
      numbers = λ instance holds fact (request, c, picked).
          absurd (contains_none request (subst (λ (l : List Ask). Contains (asked_in l) request) none c));
    };
    within = let long = ap length none in omega (arith, long);
    kept = λ k ask rows at. absurd (no_ask k ask (ap (λ (l : List Ask). slice_get l k) (sym none) ∙ at));
    members = record {
      long = begins.long;
      at = λ k plan member plan_at at.
          let b = begins.at k plan member plan_at at in
          record {
            own = [];
            numbers = subst (λ (l : List ℕ). AreNumbers (asked_in progress.book.asked.items) [] l) (sym b.wanted) refl;
            are = λ instance holds. refl;
            knows = λ instance holds. b.knows parts instance (well_formed schema) (ready plan (contains_got plans k plan plan_at)).0;
          };
    };
  }
    where
      no_ask : (k : ℕ) (ask : Ask) → slice_get [] k ≡ Some ask → ⊥
      no_ask k ask at = let within = slice_get_within [] k ask at in omega (arith, within)

  -- no memory before the rounds
  pub halts_unbegun : RoundsHalt seen schema plans cap (record { plan = 0; fault = fault.NoMemory }) old old
  halts_unbegun = record {
    n = 0;
    earlier = [];
    turns = [];
    middle = old;
    whole = record {
      asks = AsksEach-refl seen schema old;
      of_plans = λ request c. absurd (contains_none request c);
      are = λ instance holds. refl;
      numbers = λ instance holds fact (request, c, picked). absurd (contains_none request c);
    };
    part = AsksSome-none seen schema (to_ask Once [] (wanted_in [])) old;
    of_plans = λ request c. absurd (contains_none request c);
    are = inl refl;
    cause = refl;
  }

  -- ---- in a round

  module _ (n : ℕ) (progress : Progress) (before : List (Lane S)) (come : HasCome seen schema plans old cap n progress before) where
    -- the turns are what the plans want there
    turns_are : (goings : List Going) → Each (Wants schema) plans progress.members.items goings → (instance : List Fact)
        → LanesHoldAll seen schema plans old instance → AreTurns parts instance plans n (turns_by goings)
    turns_are goings wants instance holds = zipped (IsTurn parts instance n) plans (turns_by goings) (record {
      long = length-map goings (λ (g : Going). asks_of g.next) ∙ wants.third;
      at = λ k plan turn plan_at turn_at.
          let (going, got, same) = got_mapped (λ (g : Going). asks_of g.next) goings k turn turn_at in
          let within = slice_get_within plans k plan plan_at in
          let second = wants.second in
          let (member, member_at) = got_below progress.members.items k (omega (arith, within, second)) in
          let its = wants.at k plan member going plan_at member_at got in
          let own = come.members.at k plan member plan_at member_at in
          subst (IsTurn parts instance n plan) same
          (its.is_turn n instance (come.standing.members.at k plan member plan_at member_at)
          (own.knows instance (plan_of_all seen schema plans old instance plan (contains_got plans k plan plan_at) holds)));
    })

    -- a round that stopped
    pub halts_in : (why : BatchFault) (after : List (Lane S)) → RoundStops seen schema plans cap progress why before after
        → RoundsHalt seen schema plans cap why old after
    halts_in why after stops = record {
      n = n;
      earlier = asked_in progress.book.asked.items;
      turns = turns_by stops.goings;
      middle = before;
      whole = come.rounds;
      part = stops.asked;
      of_plans = wanted_of_plans schema plans n progress come.standing stops.goings stops.wants;
      are = inr (turns_are stops.goings stops.wants);
      cause = stops.cause n old come;
    }

    -- no memory behind a round
    pub halts_behind : (why : BatchFault) → why ≡ record { plan = 0; fault = fault.NoMemory } → RoundsHalt seen schema plans cap why old before
    halts_behind why is = subst (λ (w : BatchFault). RoundsHalt seen schema plans cap w old before) (sym is) (record {
      n = n;
      earlier = asked_in progress.book.asked.items;
      turns = [];
      middle = before;
      whole = come.rounds;
      part = AsksSome-none seen schema (to_ask Once (asked_in progress.book.asked.items) (wanted_in [])) before;
      of_plans = λ request c. absurd (contains_none request c);
      are = inl refl;
      cause = refl;
    })

    -- one round more
    module _ (next : Progress) (after : List (Lane S)) (goes : RoundGoes schema plans seen cap progress next before after)
        (ready : AreReadyPlans schema plans) where
      abbrev whole : RoundAsked schema plans seen cap progress next.book before after
      whole = goes.whole

      asked_are : asked_in next.book.asked.items ≡ asked_in progress.book.asked.items ++ requests_in whole.asks
      asked_are = ap asked_in whole.more ∙ map-append (λ (a : Ask). a.request) progress.book.asked.items whole.asks

      stands : IsStanding schema plans (n + 1) next
      stands = stands_next schema plans n progress come.standing seen cap next before after goes

      member_more : (k : ℕ) (plan : Plan) (member : Member) → slice_get plans k ≡ Some plan → slice_get next.members.items k ≡ Some member
          → HasWanted seen schema plans old (n + 1) (asked_in next.book.asked.items) plan member
      member_more k plan member plan_at member_at =
          let within = slice_get_within plans k plan plan_at in
          let second = goes.takes.second in
          let earlier = come.members.long in
          let (going, got) = got_below whole.goings k (omega (arith, within, second)) in
          let (was, was_at) = got_below progress.members.items k (omega (arith, within, earlier)) in
          let its = whole.noted.wants.at k plan was going plan_at was_at got in
          let took = goes.takes.at k plan going member plan_at got member_at in
          let own = come.members.at k plan was plan_at was_at in
          let at = come.standing.members.at k plan was plan_at was_at in
          let of = contains_got plans k plan plan_at in
          let now = asks_of going.next in
          let are = whole.noted.are going (contains_got whole.goings k going got) in
          let all : AreNumbers (asked_in next.book.asked.items) own.own was.wanted.items =
          numbers_onward progress.book next.book whole.asks whole.more own.own was.wanted.items own.numbers in
          let is_turn = λ (instance : List Fact) (holds : LanesHoldPlan seen schema plan old instance). its.is_turn n instance at (own.knows instance holds) in
          record {
            own = own.own ++ now;
            numbers = subst (λ (l : List ℕ). AreNumbers (asked_in next.book.asked.items) (own.own ++ now) l)
                (sym (took.wanted ∙ ap (λ (l : List ℕ). l ++ going.numbers.items) its.wanted))
                (numbers_both (asked_in next.book.asked.items) own.own now was.wanted.items going.numbers.items all are);
            are = λ instance holds. anew_more instance plan own.own now (own.are instance holds) (is_turn instance holds);
            knows = λ instance holds.
                took.course.knows schema was.course instance (asked_in next.book.asked.items) its.goes (ready plan of).0 (own.knows instance holds)
                (length-map next.book.asked.items (λ (a : Ask). a.request) ∙ sym stands.kept) are
                (subst (λ (l : List RowList). AreAnswered instance (asked_in next.book.asked.items) l (asks_of going.next)) (sym goes.kept)
                (answered seen schema plans old cap n progress before come next.book after whole plan going k got plan_at instance holds));
          }
        where
          anew_more : (instance : List Fact) (plan : Plan) (own now : List Request) → AreRounds parts instance (plan ∷ []) Anew n own → IsTurn parts instance n plan now
              → AreRounds parts instance (plan ∷ []) Anew (n + 1) (own ++ now)
          anew_more instance plan own now are is =
              let one : suc n ≡ n + 1 = omega arith in
              subst (λ m. AreRounds parts instance (plan ∷ []) Anew m (own ++ now)) one
              (own, now ∷ [], are, (is, tt), ap (λ (l : List Request). own ++ l) (sym (append-nil now)))

      pub come_more : HasCome seen schema plans old cap (n + 1) next after
      come_more = record {
        standing = stands;
        rounds = record {
          asks = subst (λ (l : List Request). AsksEach seen schema l old after) (sym asked_are)
              (AsksEach-trans seen schema (asked_in progress.book.asked.items) (requests_in whole.asks) old before after come.rounds.asks whole.asked);
          of_plans = stands.of_plans;
          are = λ instance holds.
              let one : suc n ≡ n + 1 = omega arith in
              subst (λ m. AreRounds parts instance plans Once m (asked_in next.book.asked.items)) one (
                asked_in progress.book.asked.items,
                turns_by whole.goings,
                come.rounds.are instance holds,
                turns_are whole.goings whole.noted.wants instance holds,
                asked_are ∙ ap (λ (l : List Request). asked_in progress.book.asked.items ++ l)
                    (round_requests schema plans seen cap progress next.book before after whole),
              );
          numbers = λ instance holds.
              all_integers seen schema plans old cap n progress before come next.book after whole instance holds goes.no_bad;
        };
        within = whole.within;
        kept = subst (λ (l : List RowList). AreKept seen schema plans old next.book.asked.items l) (sym goes.kept)
            (kept_more seen schema plans old cap n progress before come next.book after whole);
        members = record { long = goes.takes.third; at = member_more };
      }
