-- The requests of a method, asked of lanes: what each lane may be asked, was asked and answered.
use Rattle.std.proofs.Common.{◌≡◌, ◌↔◌, ◌≤◌, ◌<◌, ℕ, suc, List, [], ◌∷◌, length, map, get_or, Option, None, Some, refl, sym, ◌∙◌, ap, subst, arith, ◌++◌, set, take, true}
use Rattle.std.specs.Prelude.{Contains, slice_get, IfSome, IsSomeAnd, option_map, Result, Ok, Err, IfErr}
use Rattle.std.proofs.lemmas.Option.{slice_get-get_or, slice_get_within}
use Rattle.lists.proofs.Members.{contains_here, contains_map, contains_mapped, contains_got, got_mapped, map_got, some_injective}
use Rattle.meaning.specs.declared.types.Fact.{Fact}
use Rattle.meaning.specs.declared.types.Method.{Method}
use Rattle.meaning.specs.declared.types.Request.{Request}
use Rattle.access_schema.specs.declared.schema.Schema.{Schema}
use Rattle.access_schema.specs.declared.schema.SourceLine.{SourceLine}
use Rattle.lane_pool.specs.Work.{AllReady}
use Rattle.source_trait.specs.Asking.{RowList, Seen, CanAsk, pick}
use Rattle.source_trait.specs.Lanes.{source_of, AtKind, StepsOn, SourceSteps}
use Rattle.source_trait.specs.Works.{MayAsk}
use Rattle.source_trait.specs.declared.lanes.Lane.{Lane}
use Rattle.source_trait.specs.declared.work.Ask.{Ask}
use Rattle.source_trait.proofs.LaneSteps.{AtKind-map, StepsOn-source}
use Rattle.middleware.specs.PlanSources.{line_for}
use Rattle.middleware.specs.Held.{SameFacts}
use Rattle.middleware.specs.Rounds.{requests_of, CanAskAll, AnswersAll, CallBreaks}
use Rattle.middleware.specs.Branches.{IsAskable, RoseAt}
use Rattle.middleware.specs.LaneRounds.{requests_in, HaveTheirKinds, AsksEach, AsksSome, AreAnswers, IsAnswer, Gives, FailsLast, CallFailsAt, AskCause, NoneStopped}
use Rattle.middleware.specs.LaneBranches.{OnEach, FailsOnLane}
use Rattle.middleware.specs.LaneAsking.{ask_of, LanesHoldRelation, AnswersFrom, AsksWanted}
use Rattle.middleware.specs.declared.lane_round.AskFault.TheVariants as asking
use Rattle.middleware.proofs.Finding.{ready_line}
use Rattle.middleware.proofs.LaneShares.{first_each, first_some}
use Rattle.middleware.proofs.Steps.{len_requests}
use Rattle.std.specs.Result.{is_err}
use Rattle.std.proofs.lemmas.List.{take-map, take_all, length-map}
use Rattle.source_trait.specs.declared.source.CallFault.{CallFault}
use Rattle.source_trait.specs.declared.source.CallFault.TheVariants as call
use Rattle.middleware.specs.Asked.{AsksLane}
use Rattle.middleware.proofs.LaneRuns.{placed, steps_here}
use Rattle.middleware.proofs.Laning.{lane_asked}
use Rattle.middleware.proofs.LaneWorks.{last_rose}
use Rattle.middleware.proofs.LaneValues.{picked_through}

module _ {S : Type 0} (seen : S → Seen) (schema : Schema) (method : Method) (line : SourceLine) (line_is : line_for method.rel schema.sources ≡ Some line)
    (requests : RowList) where
  abbrev asks : List Ask
  asks = map (ask_of line.kind method) requests

  pub asked_are : requests_in asks ≡ requests_of method.rel method.inputs requests
  asked_are = go requests
    where
      go : (list : RowList) → requests_in (map (ask_of line.kind method) list) ≡ requests_of method.rel method.inputs list
      go [] = refl
      go (v ∷ list) = ap (λ (l : List Request). record { rel = method.rel; positions = method.inputs; values = v } ∷ l) (go list)

  pub their_kinds : HaveTheirKinds schema asks
  their_kinds k ask at =
      let (values, got, is) = got_mapped (ask_of line.kind method) requests k ask at in
      record {
        line = line;
        line_is = subst (λ (a : Ask). line_for a.request.rel schema.sources ≡ Some line) is line_is;
        kind = ap (λ (a : Ask). a.kind) (sym is);
      }

  pub all_ready : (lanes : List (Lane S)) → OnEach lanes (λ kinds. IsAskable seen schema kinds method)
      → ((values : List (List ℕ)) → Contains requests values → length values ≡ length method.inputs) → AllReady (MayAsk seen) asks lanes
  all_ready lanes askable fit = λ k d less j e short.
      one (get_or lanes k d) (contains_got lanes k (get_or lanes k d) (slice_get-get_or lanes k d less)) (get_or asks j e)
      (contains_got asks j (get_or asks j e) (slice_get-get_or asks j e short))
    where
      one : (lane : Lane S) → Contains lanes lane → (ask : Ask) → Contains asks ask → MayAsk seen lane ask
      one lane among ask c =
          let (values, of, is) = contains_mapped (ask_of line.kind method) requests ask c in
          let ready : AtKind lane.kinds.items line.kind (λ s. CanAskAll ((seen s).attached method.rel) method) =
          ready_line seen schema lane.kinds.items method line line_is (askable lane among) in
          subst (MayAsk seen lane) is
          (AtKind-map line.kind lane.kinds.items (λ s. CanAskAll ((seen s).attached method.rel) method)
          (λ s. CanAsk ((seen s).attached method.rel) method.inputs values) (λ s h. h values (fit values of)) ready)

  pub answers_from : (lanes : List (Lane S)) (answers : List RowList) → AreAnswers seen lanes asks answers
      → (instance : List Fact) → LanesHoldRelation seen schema method.rel lanes instance → AnswersFrom instance method requests answers
  answers_from lanes answers are instance holds = record {
    len = are.len ∙ long requests;
    each = λ k values rows at rows_at row. one values rows (are.each k (ask_of line.kind method values) rows
        (map_got (ask_of line.kind method) requests k values at) rows_at) row;
  }
    where
      long : (list : RowList) → length (map (ask_of line.kind method) list) ≡ length list
      long [] = refl
      long (v ∷ list) = ap suc (long list)

      one : (values : List (List ℕ)) (rows : RowList) → IsAnswer seen lanes (ask_of line.kind method values) rows
          → (row : List (List ℕ)) → Contains rows row ↔ Contains (pick instance method.rel method.inputs values) row
      one values rows is row = go (source_of is.lane.kinds.items line.kind) is.gives (holds line line_is is.lane is.among)
        where
          by_held : (held : Option (List Fact)) → IfSome held (λ facts. rows ≡ pick facts method.rel method.inputs values)
              → IsSomeAnd held (λ facts. SameFacts method.rel facts instance)
              → Contains rows row ↔ Contains (pick instance method.rel method.inputs values) row
          by_held None picks same = absurd same
          by_held (Some facts) picks same =
              let t = picked_through facts instance method.rel method.inputs values same row in (
                (λ c. t.0 (subst (λ (l : RowList). Contains l row) picks c)),
                (λ c. subst (λ (l : RowList). Contains l row) (sym picks) (t.1 c)),
              )

          go : (o : Option S) → IsSomeAnd o (Gives seen (ask_of line.kind method values).request rows)
              → IsSomeAnd o (λ s. IsSomeAnd ((seen s).held) (λ facts. SameFacts method.rel facts instance))
              → Contains rows row ↔ Contains (pick instance method.rel method.inputs values) row
          go None gives same = absurd gives
          go (Some s) gives same = by_held ((seen s).held) gives.picks same

  abbrev own_requests : List Request
  own_requests = requests_of method.rel method.inputs requests

  pub fails_on : (k : ℕ) (old new : List (Lane S)) → CallFailsAt seen schema asks k old new → FailsOnLane seen schema method.rel own_requests old new
  fails_on k old new f =
      let (values, got, is) = got_mapped (ask_of line.kind method) requests k f.ask f.at in
      record {
        place = f.place;
        before = f.before;
        after = f.after;
        was = f.was;
        now = f.now;
        request = f.ask.request;
        among = subst (λ (l : List Request). Contains l f.ask.request) asked_are
            (contains_map (λ (a : Ask). a.request) asks f.ask (contains_got asks k f.ask f.at));
        last = f.last;
        rose = subst (λ (a : Ask). RoseAt seen schema a.request.rel f.before.kinds.items f.after.kinds.items) (sym is) f.rose;
        stopped = f.stopped;
      }

  pub some_asked : (k : ℕ) (old new : List (Lane S)) → CallFailsAt seen schema asks k old new → 1 ≤ length requests
  some_asked k old new f =
      let (values, got, is) = got_mapped (ask_of line.kind method) requests k f.ask f.at in
      let less : k < length requests = slice_get_within requests k values got in
      omega (arith, less)

  -- the same where the requests are lent
  module _ (lent : List Ask) (is : lent ≡ asks) where
    kinds_lent : HaveTheirKinds schema lent
    kinds_lent = subst (HaveTheirKinds schema) (sym is) their_kinds

    same_requests : requests_in lent ≡ requests_of method.rel method.inputs requests
    same_requests = ap requests_in is ∙ asked_are

    pub ready_lent : (lanes : List (Lane S)) → OnEach lanes (λ kinds. IsAskable seen schema kinds method)
        → ((values : List (List ℕ)) → Contains requests values → length values ≡ length method.inputs) → AllReady (MayAsk seen) lent lanes
    ready_lent lanes askable fit = subst (λ (l : List Ask). AllReady (MayAsk seen) l lanes) (sym is) (all_ready lanes askable fit)

    pub each_lent : (old new : List (Lane S)) → ((its : Schema) → HaveTheirKinds its lent → AsksEach seen its (requests_in lent) old new)
        → AsksEach seen schema (requests_of method.rel method.inputs requests) old new
    each_lent old new h = subst (λ (r : List Request). AsksEach seen schema r old new) same_requests (h schema kinds_lent)

    pub some_lent : (old new : List (Lane S)) → ((its : Schema) → HaveTheirKinds its lent → AsksSome seen its (requests_in lent) old new)
        → AsksSome seen schema (requests_of method.rel method.inputs requests) old new
    some_lent old new h = subst (λ (r : List Request). AsksSome seen schema r old new) same_requests (h schema kinds_lent)

    pub answers_lent : (lanes : List (Lane S)) (answers : List RowList) → AreAnswers seen lanes lent answers
        → (instance : List Fact) → LanesHoldRelation seen schema method.rel lanes instance → AnswersFrom instance method requests answers
    answers_lent lanes answers are =
        answers_from lanes answers (subst (λ (l : List Ask). AreAnswers seen lanes l answers) is are)

    failed_lent : (k : ℕ) (old new : List (Lane S)) → ((its : Schema) → HaveTheirKinds its lent → AskCause seen its lent (asking.CallFailed k) old new)
        → CallFailsAt seen schema asks k old new
    failed_lent k old new h = subst (λ (l : List Ask). CallFailsAt seen schema l k old new) is (h schema kinds_lent).1

    pub fails_lent : (k : ℕ) (old new : List (Lane S)) → ((its : Schema) → HaveTheirKinds its lent → AskCause seen its lent (asking.CallFailed k) old new)
        → FailsOnLane seen schema method.rel own_requests old new
    fails_lent k old new h = fails_on k old new (failed_lent k old new h)

    pub one_lent : (k : ℕ) (old new : List (Lane S)) → ((its : Schema) → HaveTheirKinds its lent → AskCause seen its lent (asking.CallFailed k) old new)
        → 1 ≤ length requests
    one_lent k old new h = some_asked k old new (failed_lent k old new h)

  -- ---- the first lane alone

  module _ (result : Result (List RowList) CallFault) (lane after : Lane S) (rest : List (Lane S))
      (steps : StepsOn lane.kinds.items after.kinds.items line.kind
      (λ s t. AnswersAll method.rel method.inputs requests result (seen s) (seen t))) where
    abbrev Answered : S → S → Type 0
    Answered s t = AnswersAll method.rel method.inputs requests result (seen s) (seen t)

    -- the step of the source, and how many it was asked
    known : (n : ℕ) × StepsOn lane.kinds.items after.kinds.items line.kind (λ s t. (a : AnswersAll method.rel method.inputs requests result (seen s) (seen t)) × (a.count ≡ n))
    known =
        let (place, is, at) = placed lane.kinds.items after.kinds.items line.kind Answered steps in
        let by : S → S → Type 0 = λ s t. (a : AnswersAll method.rel method.inputs requests result (seen s) (seen t)) × (a.count ≡ at.steps.count) in (
          at.steps.count,
          steps_here lane.kinds.items after.kinds.items line.kind by place is
              (record { before = at.before; after = at.after; there = at.there; now = at.now; name = at.name; steps = (at.steps, refl) }),
        )

    moved : SourceSteps lane.kinds.items after.kinds.items line.kind
        (λ s t. (a : AnswersAll method.rel method.inputs requests result (seen s) (seen t)) × (a.count ≡ known.0))
    moved = StepsOn-source lane.kinds.items after.kinds.items
        (λ s t. (a : AnswersAll method.rel method.inputs requests result (seen s) (seen t)) × (a.count ≡ known.0)) line.kind known.1

    within : known.0 ≤ length requests
    within = subst (λ n. n ≤ length requests) moved.steps.1 moved.steps.0.within

    taken : (n : ℕ) → requests_of method.rel method.inputs (take n requests) ≡ take n (requests_of method.rel method.inputs requests)
    taken n = sym (take-map (λ (v : List (List ℕ)). record { rel = method.rel; positions = method.inputs; values = v }) n requests)

    lane_asks : AsksLane seen schema (take known.0 (requests_of method.rel method.inputs requests)) lane.kinds.items after.kinds.items
    lane_asks = subst (λ (l : List Request). AsksLane seen schema l lane.kinds.items after.kinds.items) (taken known.0)
        (lane_asked seen schema method.rel method.inputs (take known.0 requests) line line_is lane.kinds.items after.kinds.items
        (λ s t. (a : AnswersAll method.rel method.inputs requests result (seen s) (seen t)) × (a.count ≡ known.0))
        (λ s t (a, is). record {
          asked = subst (λ n. (seen t).asked ≡ option_map (λ told. told ++ requests_of method.rel method.inputs (take n requests)) ((seen s).asked)) is a.asked;
          held = a.held;
          attached = a.attached;
          offers = a.offers;
          passes = a.passes;
          faults = a.faults;
        }) known.1)

    whole : known.0 ≡ length requests → AsksEach seen schema (requests_of method.rel method.inputs requests) (lane ∷ rest) (after ∷ rest)
    whole all =
        let long = len_requests method.rel method.inputs requests in
        first_each seen schema (requests_of method.rel method.inputs requests) lane after rest
        (subst (λ n. AsksLane seen schema (take n (requests_of method.rel method.inputs requests)) lane.kinds.items after.kinds.items) (all ∙ sym long) lane_asks)

    part : AsksSome seen schema (requests_of method.rel method.inputs requests) (lane ∷ rest) (after ∷ rest)
    part =
        let long = len_requests method.rel method.inputs requests in
        let few = within in
        first_some seen schema (requests_of method.rel method.inputs requests) lane after rest known.0 (omega (arith, long, few)) lane_asks

    -- what the lane holds is what it answers
    own_answers : (answers : List RowList) → IfSome ((seen moved.before).held) (λ facts. answers ≡ map (pick facts method.rel method.inputs) requests)
        → (instance : List Fact) → LanesHoldRelation seen schema method.rel (lane ∷ rest) instance → AnswersFrom instance method requests answers
    own_answers answers picks instance holds =
        by_held ((seen moved.before).held) picks
        (subst (λ (o : Option S). IsSomeAnd o (λ s. IsSomeAnd ((seen s).held) (λ facts. SameFacts method.rel facts instance))) moved.was
        (holds line line_is lane (contains_here lane rest)))
      where
        by_held : (held : Option (List Fact)) → IfSome held (λ facts. answers ≡ map (pick facts method.rel method.inputs) requests)
            → IsSomeAnd held (λ facts. SameFacts method.rel facts instance) → AnswersFrom instance method requests answers
        by_held None e same = absurd same
        by_held (Some facts) e same = record {
          len = ap length e ∙ length-map requests (pick facts method.rel method.inputs);
          each = λ k values rows at rows_at row.
              let is : pick facts method.rel method.inputs values ≡ rows =
              some_injective (pick facts method.rel method.inputs values) rows
              (sym (map_got (pick facts method.rel method.inputs) requests k values at)
              ∙ ap (λ (l : List RowList). slice_get l k) (sym e) ∙ rows_at) in
              subst (λ (l : RowList). Contains l row ↔ Contains (pick instance method.rel method.inputs values) row) is
              (picked_through facts instance method.rel method.inputs values same row);
        }

    -- the request that failed is the last that the first lane was asked
    fails_first : CallBreaks seen method.rel method.inputs requests line.kind lane.kinds.items after.kinds.items → after.stopped ≡ true
        → FailsOnLane seen schema method.rel own_requests (lane ∷ rest) (after ∷ rest)
    fails_first breaks stopped = record {
      place = 0;
      before = lane;
      after = after;
      was = refl;
      now = refl;
      request = request breaks.values;
      among = contains_map request requests breaks.values (contains_got requests breaks.n breaks.values breaks.at);
      last = last;
      rose = last_rose seen schema (request breaks.values) lane.kinds.items after.kinds.items last;
      stopped = stopped;
    }
      where
        request : List (List ℕ) → Request
        request values = record { rel = method.rel; positions = method.inputs; values = values }

        last : FailsLast seen schema (request breaks.values) lane.kinds.items after.kinds.items
        last = record {
          earlier = requests_of method.rel method.inputs (take breaks.n requests);
          middle = breaks.middle;
          asks = lane_asked seen schema method.rel method.inputs (take breaks.n requests) line line_is lane.kinds.items breaks.middle
              (λ s t. AnswersAll method.rel method.inputs (take breaks.n requests) (Ok breaks.answers) (seen s) (seen t))
              (λ s t a. record {
                asked = subst (λ (l : RowList). (seen t).asked ≡ option_map (λ told. told ++ requests_of method.rel method.inputs l) ((seen s).asked))
                    (take_all a.count (take breaks.n requests)
                    (let w : a.count ≡ length (take breaks.n requests) = a.whole in omega (arith, w))) a.asked;
                held = a.held;
                attached = a.attached;
                offers = a.offers;
                passes = a.passes;
                faults = a.faults;
              }) breaks.answered;
          line = line;
          line_is = line_is;
          fails = breaks.failed;
        }

    -- where the call of a request failed, it was the last
    abbrev Breaks : Result (List RowList) CallFault → Type 0
    Breaks r = IfErr r (λ why. why ≡ call.Failed
        → CallBreaks seen method.rel method.inputs requests line.kind lane.kinds.items after.kinds.items)

    pub first_wanted : NoneStopped (lane ∷ rest) → after.stopped ≡ is_err result → Breaks result
        → AsksWanted seen schema method requests result (lane ∷ rest) (after ∷ rest)
    first_wanted going stopped breaks = go result moved.steps.0 moved.steps.1 stopped breaks
      where
        go : (r : Result (List RowList) CallFault) (a : AnswersAll method.rel method.inputs requests r (seen moved.before) (seen moved.after))
            → a.count ≡ known.0 → after.stopped ≡ is_err r → Breaks r → AsksWanted seen schema method requests r (lane ∷ rest) (after ∷ rest)
        go (Ok answers) a tied stopped breaks = record {
          asks = let e : a.count ≡ length requests = a.whole in whole (sym tied ∙ e);
          answers = own_answers answers a.answers;
          going = (stopped, going.1);
          refused = tt;
          some = λ e. absurd (cc);
          failed = λ e. absurd (cc);
        }
        go (Err call.Failed) a tied stopped breaks = record {
          asks = tt;
          answers = tt;
          going = tt;
          refused = part;
          some = λ e. let b = breaks refl in let within = slice_get_within requests b.n b.values b.at in omega (arith, within);
          failed = λ e. fails_first (breaks refl) stopped;
        }
        go (Err call.NoMemory) a tied stopped breaks = record {
          asks = tt;
          answers = tt;
          going = tt;
          refused = part;
          some = λ e. absurd (cc);
          failed = λ e. absurd (cc);
        }

  module _ (lanes : List (Lane S)) (d : Lane S) (long : 0 < length lanes) where
    -- the first lane may be asked what each lane may be asked
    first_askable : OnEach lanes (λ kinds. IsAskable seen schema kinds method)
        → AtKind (get_or lanes 0 d).kinds.items line.kind (λ s. CanAskAll ((seen s).attached method.rel) method)
    first_askable askable =
        ready_line seen schema (get_or lanes 0 d).kinds.items method line line_is
        (askable (get_or lanes 0 d) (contains_got lanes 0 (get_or lanes 0 d) (slice_get-get_or lanes 0 d long)))

    pub first_there : OnEach lanes (λ kinds. IsAskable seen schema kinds method)
        → AtKind (get_or lanes 0 d).kinds.items line.kind (λ s. Unit {0})
    first_there askable =
        AtKind-map line.kind (get_or lanes 0 d).kinds.items (λ s. CanAskAll ((seen s).attached method.rel) method) (λ s. Unit {0}) (λ s h. tt)
        (first_askable askable)

    pub first_ready : OnEach lanes (λ kinds. IsAskable seen schema kinds method)
        → ((values : List (List ℕ)) → Contains requests values → length values ≡ length method.inputs)
        → (values : List (List ℕ)) → Contains requests values
        → AtKind (get_or lanes 0 d).kinds.items line.kind (λ s. CanAsk ((seen s).attached method.rel) method.inputs values)
    first_ready askable fit values among =
        AtKind-map line.kind (get_or lanes 0 d).kinds.items (λ s. CanAskAll ((seen s).attached method.rel) method)
        (λ s. CanAsk ((seen s).attached method.rel) method.inputs values) (λ s h. h values (fit values among)) (first_askable askable)

  -- the first lane was asked, and the others stay
  pub first_of : (result : Result (List RowList) CallFault) (lanes : List (Lane S)) (d after : Lane S) → 0 < length lanes → NoneStopped lanes
      → StepsOn (get_or lanes 0 d).kinds.items after.kinds.items line.kind
      (λ s t. AnswersAll method.rel method.inputs requests result (seen s) (seen t))
      → after.stopped ≡ is_err result
      → IfErr result (λ why. why ≡ call.Failed
      → CallBreaks seen method.rel method.inputs requests line.kind (get_or lanes 0 d).kinds.items after.kinds.items)
      → AsksWanted seen schema method requests result lanes (set lanes 0 after)
  first_of result [] d after long going steps stopped breaks = absurd (omega arith)
  first_of result (x ∷ rest) d after long going steps stopped breaks = first_wanted result x after rest steps going stopped breaks
