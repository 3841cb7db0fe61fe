-- Requests that lanes were asked one piece after another.
use Rattle.std.proofs.Common.{◌≡◌, ◌∙◌, ◌+◌, ◌-◌, ◌<◌, ◌≤◌, ◌⊎◌, inl, inr, ⊎_elim, ℕ, zero, suc, Bool, true, false, cond, List, [], ◌∷◌, ◌++◌, length, length-append, map, Option, None, Some, refl, sym, ap, subst, arith}
use Rattle.std.specs.Prelude.{Contains, slice_get, nat_lt, IfSome, IsSomeAnd}
use Rattle.std.specs.List.{AllByRecursion, filter}
use Rattle.std.proofs.lemmas.Bool.{ltb-true}
use Rattle.std.proofs.lemmas.Bool.Decides.{nat_tests}
use Rattle.std.proofs.lemmas.List.{map-append}
use Rattle.std.proofs.lemmas.List.Elements.{Contains-append_cases, Contains-append_left, Contains-append_right}
use native.Mathlib.Decide.{dec_le}
use Rattle.lists.proofs.Members.{contains_here, contains_there, contains_cases, contains_none, contains_one, contains_got, contains_map, got_before, some_injective}
use Rattle.lists.proofs.Places.{got_after}
use Rattle.meaning.specs.declared.types.Fact.{Fact}
use Rattle.meaning.specs.declared.types.Request.{Request}
use Rattle.meaning.specs.Values.{Value, Row}
use Rattle.access_schema.specs.declared.schema.Schema.{Schema}
use Rattle.access_schema.specs.Meaning.{meaning_of}
use Rattle.bad_numbers.specs.declared.found.BadNumber.{BadNumber}
use Rattle.bad_numbers.specs.Found.{earlier_of, FindsAmong}
use Rattle.bad_numbers.proofs.Among.{earlier_found, same_found}
use Rattle.lane_pool.specs.Numbers.{total, times, hit}
use Rattle.lane_pool.proofs.Totals.{total-append}
use Rattle.source_trait.specs.Asking.{RowList, Seen, Attached, agrees, pick}
use Rattle.source_trait.specs.Lanes.{source_of}
use Rattle.source_trait.specs.declared.lanes.Lane.{Lane}
use Rattle.source_trait.specs.declared.work.Ask.{Ask}
use Rattle.middleware.specs.Asked.{AsksLane}
use Rattle.middleware.specs.Attaching.{TellsSame}
use Rattle.middleware.specs.Branches.{RoseAt}
use Rattle.middleware.specs.LaneBranches.{FailsOnLane}
use Rattle.middleware.specs.LaneRounds.{requests_in, with_request, at_numbers, LanesAsked, AsksEach, AsksSome, AreAnswers, IsAnswer, Gives, FailsLast, CallFailsAt}
use Rattle.middleware.specs.declared.fault.RunFault.{RunFault}
use Rattle.middleware.specs.declared.fault.RunFault.TheVariants as fault
use Rattle.middleware.proofs.Laning.{AsksLane-trans}
use Rattle.middleware.proofs.LaneNumbers.{moved, behind, hit_moved, times_before, AllBelow, all_below}
use Rattle.middleware.proofs.LaneShares.{at_behind, OnlyAsked, AsksEach-refl, AsksEach-trans, AsksSome-none}
use Rattle.middleware.proofs.LaneBranching.{each_asked}
use Rattle.middleware.proofs.LaneWorks.{last_rose}
use Rattle.crawl_rounds.specs.Log.{Answered, IsAmong}
use Rattle.crawl.specs.declared.progress.Progress.{Progress}
use Rattle.crawl.specs.Progress.{Gains, StandsInAnswers, answered_by}
use Rattle.crawl.specs.Pieces.{PiecesAsked, PieceCause, PiecesStop}
use Rattle.crawl.proofs.Bringing.{found_first}
use Rattle.crawl.proofs.Gaining.{gains_both, answers_none}

-- ---- answers one behind the other

answered_joined : (xs ys : List Ask) (front back : List RowList) → length front ≡ length xs
    → answered_by (xs ++ ys) (front ++ back) ≡ answered_by xs front ++ answered_by ys back
answered_joined [] ys [] back long = refl
answered_joined [] ys (r ∷ front) back long = absurd (omega arith)
answered_joined (x ∷ xs) ys [] back long = absurd (omega arith)
answered_joined (x ∷ xs) ys (r ∷ front) back long = ap (λ (l : List Answered). record { request = x.request; rows = r } ∷ l) (answered_joined xs ys front back (omega arith))

stands_joined : (front back : List Answered) (v : Value) → StandsInAnswers (front ++ back) v
    → StandsInAnswers front v ⊎ StandsInAnswers back v
stands_joined front back v (a, c, s) = ⊎_elim (λ d. inl (a, d, s)) (λ d. inr (a, d, s)) (Contains-append_cases front back a c)

stands_either : (front back : List Answered) (v : Value) → StandsInAnswers front v ⊎ StandsInAnswers back v
    → StandsInAnswers (front ++ back) v
stands_either front back v either =
    ⊎_elim (λ (a, c, s). (a, Contains-append_left front back a c, s)) (λ (a, c, s). (a, Contains-append_right front back a c, s)) either

among_joined : (front back : List Answered) (f : Fact) → IsAmong (front ++ back) f → IsAmong front f ⊎ IsAmong back f
among_joined front back f (a, c, e, h) = ⊎_elim (λ d. inl (a, d, e, h)) (λ d. inr (a, d, e, h)) (Contains-append_cases front back a c)

among_either : (front back : List Answered) (f : Fact) → IsAmong front f ⊎ IsAmong back f → IsAmong (front ++ back) f
among_either front back f either =
    ⊎_elim (λ (a, c, e, h). (a, Contains-append_left front back a c, e, h)) (λ (a, c, e, h). (a, Contains-append_right front back a c, e, h)) either

gains_joined : (front back : List Answered) (old mid new : Progress)
    → Gains (StandsInAnswers front) (IsAmong front) old mid → Gains (StandsInAnswers back) (IsAmong back) mid new
    → Gains (StandsInAnswers (front ++ back)) (IsAmong (front ++ back)) old new
gains_joined front back = gains_both (StandsInAnswers front) (StandsInAnswers back) (StandsInAnswers (front ++ back)) (IsAmong front) (IsAmong back) (IsAmong (front ++ back))
    (λ v. (stands_joined front back v, stands_either front back v)) (λ f. (among_joined front back f, among_either front back f))

-- ---- numbers of requests, below a bound

abbrev cut : ℕ → List ℕ → List ℕ
cut n ks = filter (λ k. nat_lt k n) ks

abbrev cut_all : ℕ → List (List ℕ) → List (List ℕ)
cut_all n lists = map (cut n) lists

got_far : (xs : List Request) (k : ℕ) → length xs ≤ k → slice_get xs k ≡ None
got_far [] k far = refl
got_far (x ∷ xs) zero far = absurd (omega arith)
got_far (x ∷ xs) (suc k) far = got_far xs k (omega arith)

-- those that are below the length of the first requests are the same among more of them
at_cut : (ys zs : List Request) (ks : List ℕ) → at_numbers (ys ++ zs) (cut (length ys) ks) ≡ at_numbers ys ks
at_cut ys zs [] = refl
at_cut ys zs (k ∷ ks) = go (nat_lt k (length ys)) refl (at_cut ys zs ks)
  where
    go : (b : Bool) → nat_lt k (length ys) ≡ b → at_numbers (ys ++ zs) (cut (length ys) ks) ≡ at_numbers ys ks
        → at_numbers (ys ++ zs) (cond b (k ∷ cut (length ys) ks) (cut (length ys) ks)) ≡ with_request (slice_get ys k) (at_numbers ys ks)
    go true is rest =
        ap (λ (found : Option Request). with_request found (at_numbers (ys ++ zs) (cut (length ys) ks))) (got_before ys zs k (ltb-true k (length ys) is))
        ∙ ap (with_request (slice_get ys k)) rest
    go false is rest = rest ∙ ap (λ (found : Option Request). with_request found (at_numbers ys ks)) (sym (got_far ys k (grind (arith, nat_tests, is))))

at_pieces : (xs ys zs : List Request) (ks js : List ℕ) → AllByRecursion (λ k. k < length xs) ks
    → at_numbers (xs ++ (ys ++ zs)) (ks ++ moved (length xs) (cut (length ys) js)) ≡ at_numbers xs ks ++ at_numbers ys js
at_pieces xs ys zs ks js low =
    at_behind xs (ys ++ zs) ks (cut (length ys) js) low ∙ ap (λ (l : List Request). at_numbers xs ks ++ l) (at_cut ys zs js)

-- ---- how often a number stands in them

times_cut : (a b k : ℕ) (ks : List ℕ) → times (a + k) (moved a (cut b ks)) ≤ times k ks
times_cut a b k [] = omega arith
times_cut a b k (j ∷ ks) = go (nat_lt j b) (times_cut a b k ks)
  where
    go : (t : Bool) → times (a + k) (moved a (cut b ks)) ≤ times k ks
        → times (a + k) (moved a (cond t (j ∷ cut b ks) (cut b ks))) ≤ hit k j + times k ks
    go true rest = let same = hit_moved a k j in omega (arith, same, rest)
    go false rest = omega (arith, rest)

total_low : (a k : ℕ) → k < a → (ls ms : List (List ℕ)) → total (times k) (behind a ls ms) ≤ total (times k) ls
total_low a k less [] ms = omega arith
total_low a k less (l ∷ ls) [] = omega arith
total_low a k less (l ∷ ls) (m ∷ ms) =
    let both = total-append (hit k) l (moved a m) in
    let none = times_before a k less m in
    let rest = total_low a k less ls ms in
    omega (arith, both, none, rest)

total_high : (a b k : ℕ) (ls ms : List (List ℕ))
    → total (times (a + k)) (behind a ls (cut_all b ms)) ≤ total (times (a + k)) ls + total (times k) ms
total_high a b k [] ms = omega arith
total_high a b k (l ∷ ls) [] = omega arith
total_high a b k (l ∷ ls) (m ∷ ms) =
    let both = total-append (hit (a + k)) l (moved a (cut b m)) in
    let some = times_cut a b k m in
    let rest = total_high a b k ls ms in
    omega (arith, both, some, rest)

module _ {S : Type 0} (seen : S → Seen) (schema : Schema) where
  -- ---- requests of lanes

  lanes_behind : (xs ys zs : List Request) (ls ms : List (List ℕ)) (ws vs us : List (Lane S)) → AllBelow (length xs) ls
      → LanesAsked seen schema xs ls ws vs → LanesAsked seen schema ys ms vs us
      → LanesAsked seen schema (xs ++ (ys ++ zs)) (behind (length xs) ls (cut_all (length ys) ms)) ws us
  lanes_behind xs ys zs [] [] [] [] [] low h k = tt
  lanes_behind xs ys zs [] [] [] [] (u ∷ us) low h k = absurd k
  lanes_behind xs ys zs [] (m ∷ ms) [] [] us low h k = absurd k
  lanes_behind xs ys zs [] ms [] (v ∷ vs) us low h k = absurd h
  lanes_behind xs ys zs [] ms (w ∷ ws) vs us low h k = absurd h
  lanes_behind xs ys zs (l ∷ ls) ms [] vs us low h k = absurd h
  lanes_behind xs ys zs (l ∷ ls) ms (w ∷ ws) [] us low h k = absurd h
  lanes_behind xs ys zs (l ∷ ls) [] (w ∷ ws) (v ∷ vs) us low h k = absurd k
  lanes_behind xs ys zs (l ∷ ls) (m ∷ ms) (w ∷ ws) (v ∷ vs) [] low h k = absurd k
  lanes_behind xs ys zs (l ∷ ls) (m ∷ ms) (w ∷ ws) (v ∷ vs) (u ∷ us) low h k = (
    subst (λ (r : List Request). AsksLane seen schema r w.kinds.items u.kinds.items) (sym (at_pieces xs ys zs l m low.0))
        (AsksLane-trans seen schema (at_numbers xs l) (at_numbers ys m) w.kinds.items v.kinds.items u.kinds.items h.0 k.0),
    lanes_behind xs ys zs ls ms ws vs us low.1 h.1 k.1,
  )

  -- requests were asked whole, and then some of those behind them
  each_then_some : (xs ys zs : List Request) (old mid new : List (Lane S)) → AsksEach seen schema xs old mid
      → AsksSome seen schema ys mid new
      → AsksSome seen schema (xs ++ (ys ++ zs)) old new
  each_then_some xs ys zs old mid new h k = record {
    lists = behind (length xs) h.lists (cut_all (length ys) k.lists);
    once = λ n. elim (dec_le (length xs) n) [
      | yes far ↦
          let at : length xs + (n - length xs) ≡ n = omega arith in
          let most = total_high (length xs) (length ys) (n - length xs) h.lists k.lists in
          let both = subst (λ m. total (times m) (behind (length xs) h.lists (cut_all (length ys) k.lists)) ≤ total (times m) h.lists + total (times (n - length xs)) k.lists) at most in
          let none = h.once.2 n far in
          let one = k.once (n - length xs) in
          omega (arith, both, none, one)
      | no near ↦
          let most = total_low (length xs) n (omega arith) h.lists (cut_all (length ys) k.lists) in
          let one = h.once.1 n (omega arith) in
          omega (arith, most, one)
    ];
    lanes = lanes_behind xs ys zs h.lists k.lists old mid new (all_below (length xs) h.lists h.once.2) h.lanes k.lanes;
  }

  -- ---- what lanes were before

  lane_before : (old new : List (Lane S)) → OnlyAsked seen schema old new → (lane : Lane S) → Contains new lane
      → (before : Lane S) × Contains old before × ((list : List Request) × AsksLane seen schema list before.kinds.items lane.kinds.items)
  lane_before [] [] h lane c = absurd (contains_none lane c)
  lane_before [] (u ∷ us) h lane c = absurd h
  lane_before (w ∷ ws) [] h lane c = absurd h
  lane_before (w ∷ ws) (u ∷ us) h lane c = ⊎_elim
      (λ here. (w, contains_here w ws, (h.0.0, subst (λ (l : Lane S). AsksLane seen schema h.0.0 w.kinds.items l.kinds.items) here h.0.1)))
      (λ there. let (before, among, asked) = lane_before ws us h.1 lane there in (before, contains_there w ws before among, asked))
      (contains_cases u us lane c)

  lane_at : (old new : List (Lane S)) → OnlyAsked seen schema old new → (place : ℕ) (lane : Lane S)
      → slice_get new place ≡ Some lane
      → (before : Lane S) × (slice_get old place ≡ Some before) × ((list : List Request) × AsksLane seen schema list before.kinds.items lane.kinds.items)
  lane_at [] [] h place lane at = absurd (cc)
  lane_at [] (u ∷ us) h place lane at = absurd h
  lane_at (w ∷ ws) [] h place lane at = absurd h
  lane_at (w ∷ ws) (u ∷ us) h zero lane at =
      (w, refl, (h.0.0, subst (λ (l : Lane S). AsksLane seen schema h.0.0 w.kinds.items l.kinds.items) (some_injective u lane at) h.0.1))
  lane_at (w ∷ ws) (u ∷ us) h (suc place) lane at = lane_at ws us h.1 place lane at

  gives_before : (request : Request) (rows : RowList) (o p : Option S) → TellsSame seen o p
      → IsSomeAnd p (Gives seen request rows) → IsSomeAnd o (Gives seen request rows)
  gives_before request rows None None same g = absurd g
  gives_before request rows None (Some t) same g = absurd same
  gives_before request rows (Some s) None same g = absurd same
  gives_before request rows (Some s) (Some t) same g = record {
    fits = subst (λ f. IfSome (f request.rel) (λ (a : Attached). AllByRecursion (λ (r : Row). (length r ≡ length a.0) × (agrees request.positions request.values r ≡ true)) rows)) same.1 g.fits;
    picks = subst (λ h. IfSome h (λ (facts : List Fact). rows ≡ pick facts request.rel request.positions request.values)) same.0 g.picks;
  }

  -- the answer of a lane is also that of the lane before it was asked other requests
  answer_before : (requests : List Request) (old new : List (Lane S)) → AsksEach seen schema requests old new
      → (ask : Ask) (rows : RowList) → IsAnswer seen new ask rows → IsAnswer seen old ask rows
  answer_before requests old new asks ask rows is =
      let (before, among, (list, only)) = lane_before old new (each_asked seen schema requests old new asks) is.lane is.among in
      record {
        lane = before;
        among = among;
        gives = gives_before ask.request rows (source_of before.kinds.items ask.kind) (source_of is.lane.kinds.items ask.kind) (only.tells ask.kind) is.gives;
      }

  answers_joined : (lanes : List (Lane S)) (xs ys : List Ask) (front back : List RowList)
      → AreAnswers seen lanes xs front
      → length back ≡ length ys
      → ((k : ℕ) (ask : Ask) (rows : RowList) → slice_get ys k ≡ Some ask → slice_get back k ≡ Some rows → IsAnswer seen lanes ask rows)
      → AreAnswers seen lanes (xs ++ ys) (front ++ back)
  answers_joined lanes xs ys front back are long each = record {
    len = let a = length-append front back in let b = length-append xs ys in let f = are.len in omega (arith, a, b, f, long);
    each = λ k ask rows at its. elim (dec_le (length xs) k) [
      | yes far ↦
          let same = are.len in
          let here : k ≡ length xs + (k - length xs) = omega arith in
          let there : k ≡ length front + (k - length xs) = omega (arith, same) in
          each (k - length xs) ask rows
          (sym (got_after xs ys (k - length xs)) ∙ ap (slice_get (xs ++ ys)) (sym here) ∙ at)
          (sym (got_after front back (k - length xs)) ∙ ap (slice_get (front ++ back)) (sym there) ∙ its)
      | no near ↦
          let same = are.len in
          are.each k ask rows (sym (got_before xs ys k (omega arith)) ∙ at) (sym (got_before front back k (omega (arith, same))) ∙ its)
    ];
  }

  fails_before : (requests : List Request) (old mid new : List (Lane S)) → AsksEach seen schema requests old mid
      → (request : Request)
      → FailsOnLane seen schema request.rel (request ∷ []) mid new
      → FailsOnLane seen schema request.rel (request ∷ []) old new
  fails_before requests old mid new asks request f =
      let (before, was, (list, only)) = lane_at old mid (each_asked seen schema requests old mid asks) f.place f.before f.was in
      let last : FailsLast seen schema f.request before.kinds.items f.after.kinds.items = record {
        earlier = list ++ f.last.earlier;
        middle = f.last.middle;
        asks = AsksLane-trans seen schema list f.last.earlier before.kinds.items f.before.kinds.items f.last.middle only f.last.asks;
        line = f.last.line;
        line_is = f.last.line_is;
        fails = f.last.fails;
      } in
      record {
        place = f.place;
        before = before;
        after = f.after;
        was = was;
        now = f.now;
        request = f.request;
        among = f.among;
        last = last;
        rose = subst (λ (r : Request). RoseAt seen schema r.rel before.kinds.items f.after.kinds.items) (sym (contains_one request f.request f.among))
            (last_rose seen schema f.request before.kinds.items f.after.kinds.items last);
        stopped = f.stopped;
      }

  -- ---- pieces

  pub pieces_none : (progress : Progress) (lanes : List (Lane S))
      → PiecesAsked seen schema [] None progress progress lanes lanes
  pieces_none progress lanes = record {
    asked = AsksEach-refl seen schema lanes;
    answers = [];
    answered = record { len = refl; each = λ k ask rows at its. absurd (cc) };
    finds = found_first (meaning_of schema);
    gains = answers_none progress;
  }

  pub pieces_more : (xs ys : List Ask) (bad found : Option BadNumber) (old mid new : Progress) (before middle after : List (Lane S))
      → PiecesAsked seen schema xs bad old mid before middle → PiecesAsked seen schema ys found mid new middle after
      → PiecesAsked seen schema (xs ++ ys) (earlier_of bad found) old new before after
  pieces_more xs ys bad found old mid new before middle after h k =
      let both : answered_by (xs ++ ys) (h.answers ++ k.answers) ≡ answered_by xs h.answers ++ answered_by ys k.answers = answered_joined xs ys h.answers k.answers h.answered.len in
      let one = answered_by xs h.answers in
      let other = answered_by ys k.answers in
      record {
        asked = subst (λ (r : List Request). AsksEach seen schema r before after) (sym (map-append (λ (a : Ask). a.request) xs ys))
            (AsksEach-trans seen schema (requests_in xs) (requests_in ys) before middle after h.asked k.asked);
        answers = h.answers ++ k.answers;
        answered = answers_joined before xs ys h.answers k.answers h.answered k.answered.len
            (λ n ask rows at its. answer_before (requests_in xs) before middle h.asked ask rows (k.answered.each n ask rows at its));
        finds = subst (λ (l : List Answered). FindsAmong (meaning_of schema) (IsAmong l) (earlier_of bad found)) (sym both)
            (same_found (meaning_of schema) _ (IsAmong (one ++ other)) (earlier_of bad found) (λ f. (among_either one other f, among_joined one other f))
            (earlier_found (meaning_of schema) (IsAmong one) (IsAmong other) bad found h.finds k.finds));
        gains = subst (λ (l : List Answered). Gains (StandsInAnswers l) (IsAmong l) old new) (sym both) (gains_joined one other old mid new h.gains k.gains);
      }

  -- a call failed
  pub piece_failed : (asks : List Ask) (k rounds : ℕ) (old new : List (Lane S))
      → AsksSome seen schema (requests_in asks) old new → CallFailsAt seen schema asks k old new
      → PiecesStop seen schema (requests_in asks) (fault.CallFailed 0 rounds) rounds old new
  piece_failed asks k rounds old new some f = record {
    asked = some;
    cause = (
      refl,
      refl,
      (
        f.ask.request,
        contains_map (λ (a : Ask). a.request) asks f.ask (contains_got asks k f.ask f.at),
        record {
          place = f.place;
          before = f.before;
          after = f.after;
          was = f.was;
          now = f.now;
          request = f.ask.request;
          among = contains_here f.ask.request [];
          last = f.last;
          rose = f.rose;
          stopped = f.stopped;
        },
      ),
    );
  }

  -- it stopped at a piece behind others
  pub stops_behind : (xs ys zs : List Request) (rounds : ℕ) (before middle after : List (Lane S))
      → AsksEach seen schema xs before middle
      → (why : RunFault) → PiecesStop seen schema ys why rounds middle after
      → PiecesStop seen schema (xs ++ (ys ++ zs)) why rounds before after
  stops_behind xs ys zs rounds before middle after asks why stops = record { asked = each_then_some xs ys zs before middle after asks stops.asked; cause = cause_of why stops.cause }
    where
      cause_of : (why : RunFault) → PieceCause seen schema ys rounds middle after why
          → PieceCause seen schema (xs ++ (ys ++ zs)) rounds before after why
      cause_of fault.NoMemory c = tt
      cause_of (fault.NoSource rel) c = absurd c
      cause_of (fault.UnknownKind rel) c = absurd c
      cause_of (fault.Attach rel e) c = absurd c
      cause_of (fault.CallFailed branch step) (first, its, (request, among, fails)) = (
        first,
        its,
        (
          request,
          Contains-append_right xs (ys ++ zs) request (Contains-append_left ys zs request among),
          fails_before xs before middle after asks request fails,
        ),
      )
      cause_of (fault.OverCalls made wanted its) c = absurd c
      cause_of (fault.BadNumber rel column) c = absurd c

  -- there was no memory for a piece
  pub stops_unmade : (xs zs : List Request) (rounds : ℕ) (before middle : List (Lane S))
      → AsksEach seen schema xs before middle
      → PiecesStop seen schema (xs ++ zs) fault.NoMemory rounds before middle
  stops_unmade xs zs rounds before middle asks = stops_behind xs [] zs rounds before middle middle asks fault.NoMemory
      (record { asked = AsksSome-none seen schema [] middle; cause = tt })
