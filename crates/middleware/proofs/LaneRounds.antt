-- What a round that several lanes shared says of its requests, its answers and its refusal.
use Rattle.std.proofs.Common.{◌≡◌, ◌≤◌, ◌<◌, ℕ, suc, List, [], ◌∷◌, length, map, Option, None, Some, refl, sym, ◌∙◌, ap, subst, arith}
use Rattle.std.specs.Prelude.{slice_get, IfSome, IsSomeAnd, Result, Ok, Err, IfOk, IfErr, OnOk}
use Rattle.std.proofs.lemmas.List.{length-map}
use Rattle.std.proofs.lemmas.Option.{slice_get_within}
use Rattle.lists.proofs.Members.{contains_got, got_below, got_mapped, map_got}
use Rattle.meaning.specs.declared.types.Fact.{Fact}
use Rattle.access_schema.specs.declared.schema.Schema.{Schema}
use Rattle.lane_pool.specs.Numbers.{total, times, EachOnce}
use Rattle.lane_pool.specs.Work.{AllWorked, FansOut}
use Rattle.source_trait.specs.Asking.{RowList, Seen, pick}
use Rattle.source_trait.specs.Lanes.{source_of, AtKind}
use Rattle.source_trait.specs.Works.{Works}
use Rattle.source_trait.specs.declared.lanes.Lane.{Lane}
use Rattle.source_trait.specs.declared.work.Ask.{Ask}
use Rattle.source_trait.specs.declared.work.Asked.{Asked}
use Rattle.source_trait.specs.declared.work.Asked.TheVariants as asked
use Rattle.middleware.specs.LaneRounds.{started, requests_in, HaveTheirKinds, LanesAsked, AsksEach, AsksSome, FailsLast, Gives, IsAnswer, AreAnswers, LanesHold, picked, NoneStopped, FirstRefused, CallFailsAt, AskCause}
use Rattle.middleware.specs.declared.lane_round.AskFault.{AskFault}
use Rattle.middleware.specs.declared.lane_round.AskFault.TheVariants as fault
use Rattle.middleware.proofs.Laning.{AsksLane-refl}
use Rattle.middleware.proofs.LaneAnswers.{asked_among, asked_at_most_once, whole_lists, worked_at}
use Rattle.middleware.proofs.LaneWorks.{run_asks, run_gives, last_rose, run_fails, run_goes}

module _ {S : Type 0} (seen : S → Seen) where
  -- ---- what was asked

  lanes_asked : (schema : Schema) (asks : List Ask) (answers : List Asked) → HaveTheirKinds schema asks
      → (lists : List (List ℕ)) (ws us : List (Lane S)) → AllWorked (Works seen) asks answers lists (map started ws) us
      → LanesAsked seen schema (requests_in asks) (map (asked_among answers) lists) ws us
  lanes_asked schema asks answers kinds [] [] [] all = tt
  lanes_asked schema asks answers kinds [] [] (u ∷ us) all = absurd all
  lanes_asked schema asks answers kinds [] (w ∷ ws) us all = absurd all
  lanes_asked schema asks answers kinds (l ∷ ls) [] us all = absurd all
  lanes_asked schema asks answers kinds (l ∷ ls) (w ∷ ws) [] all = absurd all
  lanes_asked schema asks answers kinds (l ∷ ls) (w ∷ ws) (u ∷ us) all =
      (run_asks seen asks answers schema kinds l (started w) u all.0, lanes_asked schema asks answers kinds ls ws us all.1)

  -- a round that was answered has asked each request once
  pub asks_each : (schema : Schema) (asks : List Ask) (rows : List RowList) (told : List Asked) (ws us : List (Lane S))
      → map asked.Rows rows ≡ told → FansOut (Works seen) asks told (map started ws) us
      → HaveTheirKinds schema asks → AsksEach seen schema (requests_in asks) ws us
  asks_each schema asks rows told ws us is fanned kinds = record {
    lists = fanned.lists;
    ascend = fanned.ascend;
    once = subst (λ n. EachOnce fanned.lists n) (sym (length-map asks (λ (a : Ask). a.request))) fanned.once;
    lanes = subst (λ (lists : List (List ℕ)). LanesAsked seen schema (requests_in asks) lists ws us)
        (whole_lists (Works seen) asks rows fanned.lists (map started ws) us worked)
        (lanes_asked schema asks (map asked.Rows rows) kinds fanned.lists ws us worked);
  }
    where
      worked : AllWorked (Works seen) asks (map asked.Rows rows) fanned.lists (map started ws) us
      worked = subst (λ (answers : List Asked). AllWorked (Works seen) asks answers fanned.lists (map started ws) us) (sym is) fanned.worked

  -- a round has asked each request at most once
  pub asks_some : (schema : Schema) (asks : List Ask) (answers : List Asked) (ws us : List (Lane S))
      → FansOut (Works seen) asks answers (map started ws) us → HaveTheirKinds schema asks
      → AsksSome seen schema (requests_in asks) ws us
  asks_some schema asks answers ws us fanned kinds = record {
    lists = map (asked_among answers) fanned.lists;
    once = asked_at_most_once answers fanned.lists (length asks) fanned.once;
    lanes = lanes_asked schema asks answers kinds fanned.lists ws us fanned.worked;
  }

  -- lanes that only started have asked nothing
  pub asks_none : (schema : Schema) (asks : List Ask) (ws us : List (Lane S)) → us ≡ map started ws
      → AsksSome seen schema (requests_in asks) ws us
  asks_none schema asks ws us is = subst (λ (lanes : List (Lane S)). AsksSome seen schema (requests_in asks) ws lanes) (sym is)
      (record { lists = map (λ (w : Lane S). []) ws; once = once ws; lanes = lanes ws })
    where
      once : (ws : List (Lane S)) (k : ℕ) → total (times k) (map (λ (w : Lane S). []) ws) ≤ 1
      once [] k = omega arith
      once (w ∷ ws) k = let rest = once ws k in omega arith

      lanes : (ws : List (Lane S)) → LanesAsked seen schema (requests_in asks) (map (λ (w : Lane S). []) ws) ws (map started ws)
      lanes [] = tt
      lanes (w ∷ ws) = (AsksLane-refl seen schema w.kinds.items, lanes ws)

  -- ---- the answers

  -- a number that names a request was drawn
  drawn : (k n : ℕ) (lists : List (List ℕ)) → EachOnce lists n → k < n → 0 < total (times k) lists
  drawn k n lists once less = let o = once.1 k less in omega arith

  is_answer : (asks : List Ask) (answers : List Asked) (ws us : List (Lane S)) → FansOut (Works seen) asks answers (map started ws) us
      → (k : ℕ) (ask : Ask) (rows : RowList) → slice_get asks k ≡ Some ask → slice_get answers k ≡ Some (asked.Rows rows)
      → IsAnswer seen ws ask rows
  is_answer asks answers ws us fanned k ask rows ask_at rows_at =
      let at = worked_at (Works seen) asks answers k fanned.lists (map started ws) us fanned.worked
      (drawn k (length asks) fanned.lists fanned.once (slice_get_within asks k ask ask_at)) in
      let (lane, was, same) = got_mapped started ws at.place at.before at.was in
      record {
        lane = lane;
        among = contains_got ws at.place lane was;
        gives = subst (λ (l : Lane S). AtKind l.kinds.items ask.kind (Gives seen ask.request rows)) (sym same)
            (run_gives seen asks answers at.list at.before at.after at.worked k at.among ask rows ask_at rows_at);
      }

  -- each answer is what a source of its kind gives
  pub are_answers : (asks : List Ask) (rows : List RowList) (told : List Asked) (ws us : List (Lane S)) → map asked.Rows rows ≡ told
      → FansOut (Works seen) asks told (map started ws) us → AreAnswers seen ws asks rows
  are_answers asks rows told ws us is fanned = record {
    len = sym (length-map rows asked.Rows) ∙ ap length is ∙ fanned.len;
    each = λ k ask found ask_at rows_at. is_answer asks told ws us fanned k ask found ask_at
        (ap (λ (l : List Asked). slice_get l k) (sym is) ∙ map_got asked.Rows rows k found rows_at);
  }

  module _ (lanes : List (Lane S)) (facts : List ℕ → List Fact) (holds : LanesHold seen lanes facts) where
    one_picked : (ask : Ask) (rows : RowList) → IsAnswer seen lanes ask rows
        → rows ≡ pick (facts ask.kind) ask.request.rel ask.request.positions ask.request.values
    one_picked ask rows is = go (source_of is.lane.kinds.items ask.kind) refl is.gives
      where
        go : (o : Option S) → source_of is.lane.kinds.items ask.kind ≡ o → IsSomeAnd o (Gives seen ask.request rows)
            → rows ≡ pick (facts ask.kind) ask.request.rel ask.request.positions ask.request.values
        go None at gives = absurd gives
        go (Some s) at gives =
            subst (λ (held : Option (List Fact)). IfSome held (λ its. rows ≡ pick its ask.request.rel ask.request.positions
            ask.request.values)) (holds is.lane ask.kind s is.among at) gives.picks

    all_picked : (asks : List Ask) (answers : List RowList) → length answers ≡ length asks
        → ((k : ℕ) (ask : Ask) (rows : RowList) → slice_get asks k ≡ Some ask → slice_get answers k ≡ Some rows
        → IsAnswer seen lanes ask rows)
        → answers ≡ picked facts asks
    all_picked [] [] len each = refl
    all_picked [] (rows ∷ answers) len each = absurd (omega arith)
    all_picked (ask ∷ asks) [] len each = absurd (omega arith)
    all_picked (ask ∷ asks) (rows ∷ answers) len each =
        let first : rows ≡ pick (facts ask.kind) ask.request.rel ask.request.positions ask.request.values = one_picked ask rows
        (each 0 ask rows refl refl) in
        let rest : answers ≡ picked facts asks = all_picked asks answers (omega arith) (λ k. each (suc k)) in
        λ i. first i ∷ rest i

    -- where the lanes hold the same facts, the answers are those of the facts
    pub answers_picked : (asks : List Ask) (answers : List RowList) → AreAnswers seen lanes asks answers → answers ≡ picked facts asks
    answers_picked asks answers are = all_picked asks answers are.len are.each

  -- where all requests are answered, no lane is stopped
  pub none_stopped : (asks : List Ask) (rows : List RowList) (told : List Asked) (ws us : List (Lane S)) → map asked.Rows rows ≡ told
      → FansOut (Works seen) asks told (map started ws) us → NoneStopped us
  none_stopped asks rows told ws us is fanned = all fanned.lists ws us
      (subst (λ (answers : List Asked). AllWorked (Works seen) asks answers fanned.lists (map started ws) us) (sym is) fanned.worked)
    where
      all : (lists : List (List ℕ)) (ws us : List (Lane S)) → AllWorked (Works seen) asks (map asked.Rows rows) lists (map started ws) us
          → NoneStopped us
      all [] [] [] h = tt
      all [] [] (u ∷ us) h = absurd h
      all [] (w ∷ ws) us h = absurd h
      all (l ∷ ls) [] us h = absurd h
      all (l ∷ ls) (w ∷ ws) [] h = absurd h
      all (l ∷ ls) (w ∷ ws) (u ∷ us) h = (run_goes seen asks rows l (started w) u h.0 refl, all ls ws us h.1)

  -- ---- the refusal

  call_fails : (schema : Schema) (asks : List Ask) (answers : List Asked) (ws us : List (Lane S)) → HaveTheirKinds schema asks
      → FansOut (Works seen) asks answers (map started ws) us
      → (k : ℕ) (ask : Ask) → slice_get asks k ≡ Some ask → slice_get answers k ≡ Some asked.Failed → CallFailsAt seen schema asks k ws us
  call_fails schema asks answers ws us kinds fanned k ask ask_at failed_at =
      let at = worked_at (Works seen) asks answers k fanned.lists (map started ws) us fanned.worked
      (drawn k (length asks) fanned.lists fanned.once (slice_get_within asks k ask ask_at)) in
      let (lane, was, same) = got_mapped started ws at.place at.before at.was in
      let failed = run_fails seen asks answers schema kinds at.list at.before at.after at.worked k at.among ask ask_at failed_at in
      let last = subst (λ (l : Lane S). FailsLast seen schema ask.request l.kinds.items at.after.kinds.items) (sym same) failed.0 in
      record {
        ask = ask;
        at = ask_at;
        place = at.place;
        before = lane;
        after = at.after;
        was = was;
        now = at.now;
        last = last;
        rose = last_rose seen schema ask.request lane.kinds.items at.after.kinds.items last;
        stopped = failed.1;
      }

  -- why a round was refused whose first refusal is this one
  pub round_breaks : (schema : Schema) (asks : List Ask) (answers : List Asked) (ws us : List (Lane S)) (why : AskFault)
      → HaveTheirKinds schema asks → FansOut (Works seen) asks answers (map started ws) us
      → FirstRefused why answers → AskCause seen schema asks why ws us
  round_breaks schema asks answers ws us fault.NoMemory kinds fanned first = tt
  round_breaks schema asks answers ws us (fault.CallFailed k) kinds fanned first =
      let less : k < length asks = subst (λ n. k < n) fanned.len (slice_get_within answers k asked.Failed first.0) in
      let (ask, ask_at) = got_below asks k less in (
        record { answers = answers; fans_out = fanned; first = first },
        call_fails schema asks answers ws us kinds fanned k ask ask_at
            first.0,
      )

-- what holds in any case holds of a refusal
pub at_refusal : {A E P : Type 0} (r : Result A E) → P → IfErr r (λ _. P)
at_refusal (Ok a) p = tt
at_refusal (Err e) p = p

-- what follows from each success holds on success
pub on_success : {A E Q : Type 0} (r : Result A E) (P : A → Type 0) → ((a : A) → P a → Q) → IfOk r P → OnOk r Q
on_success (Ok a) P follows p = follows a p
on_success (Err e) P follows p = tt
