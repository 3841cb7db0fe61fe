-- Requests that lanes shared, one list after another: each request of both lists was asked once, in order on each lane.
use Rattle.std.proofs.Common.{◌≡◌, inl, inr, ◌+◌, ◌<◌, ◌≤◌, ℕ, zero, suc, List, [], ◌∷◌, ◌++◌, length, length-append, map, take, Option, None, Some, refl, sym, ◌∙◌, ap, subst, arith}
use Rattle.std.specs.Prelude.{slice_get}
use Rattle.std.specs.List.{AllByRecursion, AllZip}
use native.Mathlib.Decide.{dec_le}
use Rattle.lists.proofs.Members.{got_before, contains_here, contains_there, contains_cases}
use Rattle.lists.proofs.Places.{got_after}
use Rattle.meaning.specs.declared.types.Request.{Request}
use Rattle.access_schema.specs.declared.schema.Schema.{Schema}
use Rattle.lane_pool.specs.Numbers.{total, times, EachOnce, AllAscend}
use Rattle.source_trait.specs.Asking.{Seen}
use Rattle.source_trait.specs.declared.lanes.Kind.{Kind}
use Rattle.source_trait.specs.declared.lanes.Lane.{Lane}
use Rattle.middleware.specs.Asked.{AsksLane}
use Rattle.middleware.specs.LaneRounds.{with_request, at_numbers, LanesAsked, AsksEach, AsksSome}
use Rattle.middleware.specs.LaneBranches.{OnEach}
use Rattle.middleware.proofs.Laning.{AsksLane-refl, AsksLane-trans}
use Rattle.middleware.proofs.LaneNumbers.{moved, behind, AllBelow, all_below, behind_ascends, behind_once, first_numbers, numbers_once, numbers_ascend}

-- ---- requests at numbers

at_first : (xs ys : List Request) (ks : List ℕ) → AllByRecursion (λ k. k < length xs) ks → at_numbers (xs ++ ys) ks ≡ at_numbers xs ks
at_first xs ys [] low = refl
at_first xs ys (k ∷ ks) low =
    ap (λ (found : Option Request). with_request found (at_numbers (xs ++ ys) ks)) (got_before xs ys k low.0)
    ∙ ap (with_request (slice_get xs k)) (at_first xs ys ks low.1)

at_second : (xs ys : List Request) (ks : List ℕ) → at_numbers (xs ++ ys) (moved (length xs) ks) ≡ at_numbers ys ks
at_second xs ys [] = refl
at_second xs ys (k ∷ ks) =
    ap (λ (found : Option Request). with_request found (at_numbers (xs ++ ys) (moved (length xs) ks))) (got_after xs ys k)
    ∙ ap (with_request (slice_get ys k)) (at_second xs ys ks)

at_both : (requests : List Request) (ks js : List ℕ) → at_numbers requests (ks ++ js) ≡ at_numbers requests ks ++ at_numbers requests js
at_both requests [] js = refl
at_both requests (k ∷ ks) js = go (slice_get requests k) (at_both requests ks js)
  where
    go : (found : Option Request) → at_numbers requests (ks ++ js) ≡ at_numbers requests ks ++ at_numbers requests js
        → with_request found (at_numbers requests (ks ++ js)) ≡ with_request found (at_numbers requests ks) ++ at_numbers requests js
    go None e = e
    go (Some request) e = ap (λ (l : List Request). request ∷ l) e

pub at_behind : (xs ys : List Request) (ks js : List ℕ) → AllByRecursion (λ k. k < length xs) ks
    → at_numbers (xs ++ ys) (ks ++ moved (length xs) js) ≡ at_numbers xs ks ++ at_numbers ys js
at_behind xs ys ks js low =
    let first : at_numbers (xs ++ ys) ks ≡ at_numbers xs ks = at_first xs ys ks low in
    let second : at_numbers (xs ++ ys) (moved (length xs) js) ≡ at_numbers ys js = at_second xs ys js in
    at_both (xs ++ ys) ks (moved (length xs) js) ∙ (λ i. first i ++ second i)

at_first_numbers : (requests : List Request) (n : ℕ) → n ≤ length requests → at_numbers requests (first_numbers n) ≡ take n requests
at_first_numbers [] zero few = refl
at_first_numbers [] (suc n) few = absurd (omega arith)
at_first_numbers (x ∷ xs) zero few = refl
at_first_numbers (x ∷ xs) (suc n) few =
    ap (λ (l : List Request). x ∷ l) (at_second (x ∷ []) xs (first_numbers n) ∙ at_first_numbers xs n (omega arith))

-- ---- requests of lanes

module _ {S : Type 0} (seen : S → Seen) (schema : Schema) where
  lists_long : (requests : List Request) (lists : List (List ℕ)) (ws us : List (Lane S)) → LanesAsked seen schema requests lists ws us
      → length lists ≡ length ws
  lists_long requests [] [] [] h = refl
  lists_long requests [] [] (u ∷ us) h = absurd h
  lists_long requests [] (w ∷ ws) us h = absurd h
  lists_long requests (l ∷ ls) [] us h = absurd h
  lists_long requests (l ∷ ls) (w ∷ ws) [] h = absurd h
  lists_long requests (l ∷ ls) (w ∷ ws) (u ∷ us) h = ap suc (lists_long requests ls ws us h.1)

  lanes_long : (requests : List Request) (lists : List (List ℕ)) (ws us : List (Lane S)) → LanesAsked seen schema requests lists ws us
      → length us ≡ length ws
  lanes_long requests [] [] [] h = refl
  lanes_long requests [] [] (u ∷ us) h = absurd h
  lanes_long requests [] (w ∷ ws) us h = absurd h
  lanes_long requests (l ∷ ls) [] us h = absurd h
  lanes_long requests (l ∷ ls) (w ∷ ws) [] h = absurd h
  lanes_long requests (l ∷ ls) (w ∷ ws) (u ∷ us) h = ap suc (lanes_long requests ls ws us h.1)

  lanes_behind : (xs ys : List Request) (ls ms : List (List ℕ)) (ws vs us : List (Lane S)) → AllBelow (length xs) ls
      → LanesAsked seen schema xs ls ws vs → LanesAsked seen schema ys ms vs us
      → LanesAsked seen schema (xs ++ ys) (behind (length xs) ls ms) ws us
  lanes_behind xs ys [] [] [] [] [] low h k = tt
  lanes_behind xs ys [] [] [] [] (u ∷ us) low h k = absurd k
  lanes_behind xs ys [] (m ∷ ms) [] [] us low h k = absurd k
  lanes_behind xs ys [] ms [] (v ∷ vs) us low h k = absurd h
  lanes_behind xs ys [] ms (w ∷ ws) vs us low h k = absurd h
  lanes_behind xs ys (l ∷ ls) ms [] vs us low h k = absurd h
  lanes_behind xs ys (l ∷ ls) ms (w ∷ ws) [] us low h k = absurd h
  lanes_behind xs ys (l ∷ ls) [] (w ∷ ws) (v ∷ vs) us low h k = absurd k
  lanes_behind xs ys (l ∷ ls) (m ∷ ms) (w ∷ ws) (v ∷ vs) [] low h k = absurd k
  lanes_behind xs ys (l ∷ ls) (m ∷ ms) (w ∷ ws) (v ∷ vs) (u ∷ us) low h k = (
    subst (λ (r : List Request). AsksLane seen schema r w.kinds.items u.kinds.items) (sym (at_behind xs ys l m low.0))
        (AsksLane-trans seen schema (at_numbers xs l) (at_numbers ys m) w.kinds.items v.kinds.items u.kinds.items h.0 k.0),
    lanes_behind xs ys ls ms ws vs us low.1 h.1 k.1,
  )

  -- two lists of requests were asked one after the other
  pub AsksEach-trans : (xs ys : List Request) (old mid new : List (Lane S)) → AsksEach seen schema xs old mid → AsksEach seen schema ys mid new
      → AsksEach seen schema (xs ++ ys) old new
  AsksEach-trans xs ys old mid new h k =
      let low : AllBelow (length xs) h.lists = all_below (length xs) h.lists h.once.2 in
      let same : length h.lists ≡ length k.lists =
      lists_long xs h.lists old mid h.lanes ∙ sym (lanes_long xs h.lists old mid h.lanes) ∙ sym (lists_long ys k.lists mid new k.lanes) in
      record {
        lists = behind (length xs) h.lists k.lists;
        ascend = behind_ascends (length xs) h.lists k.lists low h.ascend k.ascend;
        once = subst (λ n. EachOnce (behind (length xs) h.lists k.lists) n) (sym (length-append xs ys))
            (behind_once (length xs) (length ys) h.lists k.lists same h.once k.once);
        lanes = lanes_behind xs ys h.lists k.lists old mid new low h.lanes k.lanes;
      }

  -- where nothing is asked
  asked_none : (requests : List Request) (ws : List (Lane S)) → LanesAsked seen schema requests (map (λ (w : Lane S). []) ws) ws ws
  asked_none requests [] = tt
  asked_none requests (w ∷ ws) = (AsksLane-refl seen schema w.kinds.items, asked_none requests ws)

  no_total : (f : List ℕ → ℕ) → f [] ≡ 0 → (ws : List (Lane S)) → total f (map (λ (w : Lane S). []) ws) ≡ 0
  no_total f empty [] = refl
  no_total f empty (w ∷ ws) = let rest = no_total f empty ws in omega (arith, empty, rest)

  none_ascend : (ws : List (Lane S)) → AllAscend (map (λ (w : Lane S). []) ws)
  none_ascend [] = tt
  none_ascend (w ∷ ws) = ((λ k less. absurd (omega arith)), none_ascend ws)

  pub AsksEach-refl : (lanes : List (Lane S)) → AsksEach seen schema [] lanes lanes
  AsksEach-refl lanes = record {
    lists = map (λ (w : Lane S). []) lanes;
    ascend = none_ascend lanes;
    once = (no_total length refl lanes, (λ k less. absurd (omega arith)), (λ k far. no_total (times k) refl lanes));
    lanes = asked_none [] lanes;
  }

  pub AsksSome-none : (requests : List Request) (lanes : List (Lane S)) → AsksSome seen schema requests lanes lanes
  AsksSome-none requests lanes = record {
    lists = map (λ (w : Lane S). []) lanes;
    once = λ k. let z = no_total (times k) refl lanes in omega (arith, z);
    lanes = asked_none requests lanes;
  }

  -- what was asked once was asked at most once
  pub each_some : (requests : List Request) (old new : List (Lane S)) → AsksEach seen schema requests old new → AsksSome seen schema requests old new
  each_some requests old new h = record {
    lists = h.lists;
    once = λ k. elim (dec_le (length requests) k) [
      | yes far ↦ let z = h.once.2 k far in omega (arith, z)
      | no near ↦ let o = h.once.1 k (omega arith) in omega (arith, o)
    ];
    lanes = h.lanes;
  }

  -- the first lane was asked all of them, or the first ones
  module _ (requests : List Request) (lane after : Lane S) (rest : List (Lane S)) where
    first_once : (n : ℕ) → EachOnce (first_numbers n ∷ map (λ (w : Lane S). []) rest) n
    first_once n =
        let own = numbers_once n in (
          (let a = own.0 in let z = no_total length refl rest in omega (arith, a, z)),
          (λ k less. let a = own.1 k less in let z = no_total (times k) refl rest in omega (arith, a, z)),
          (λ k far. let a = own.2 k far in let z = no_total (times k) refl rest in omega (arith, a, z)),
        )

    first_asked : (n : ℕ) → n ≤ length requests → AsksLane seen schema (take n requests) lane.kinds.items after.kinds.items
        → LanesAsked seen schema requests (first_numbers n ∷ map (λ (w : Lane S). []) rest) (lane ∷ rest) (after ∷ rest)
    first_asked n few asks = (
      subst (λ (l : List Request). AsksLane seen schema l lane.kinds.items after.kinds.items) (sym (at_first_numbers requests n few)) asks,
      asked_none requests rest,
    )

    pub first_each : AsksLane seen schema (take (length requests) requests) lane.kinds.items after.kinds.items
        → AsksEach seen schema requests (lane ∷ rest) (after ∷ rest)
    first_each asks = record {
      lists = first_numbers (length requests) ∷ map (λ (w : Lane S). []) rest;
      ascend = ((numbers_ascend (length requests)).0, none_ascend rest);
      once = first_once (length requests);
      lanes = first_asked (length requests) (omega arith) asks;
    }

    pub first_some : (n : ℕ) → n ≤ length requests → AsksLane seen schema (take n requests) lane.kinds.items after.kinds.items
        → AsksSome seen schema requests (lane ∷ rest) (after ∷ rest)
    first_some n few asks = record {
      lists = first_numbers n ∷ map (λ (w : Lane S). []) rest;
      once = λ k. elim (dec_le n k) [
        | yes far ↦ let z = (first_once n).2 k far in omega (arith, z)
        | no near ↦ let o = (first_once n).1 k (omega arith) in omega (arith, o)
      ];
      lanes = first_asked n few asks;
    }

  -- ---- what stays on each lane

  -- each lane was asked some requests, and nothing else that its sources tell changed
  abbrev pub OnlyAsked : List (Lane S) → List (Lane S) → Type 0
  OnlyAsked old new = AllZip (λ w u. (list : List Request) × AsksLane seen schema list w.kinds.items u.kinds.items) old new

  pub only_asked : (requests : List Request) (lists : List (List ℕ)) (ws us : List (Lane S)) → LanesAsked seen schema requests lists ws us
      → OnlyAsked ws us
  only_asked requests [] [] [] h = tt
  only_asked requests [] [] (u ∷ us) h = absurd h
  only_asked requests [] (w ∷ ws) us h = absurd h
  only_asked requests (l ∷ ls) [] us h = absurd h
  only_asked requests (l ∷ ls) (w ∷ ws) [] h = absurd h
  only_asked requests (l ∷ ls) (w ∷ ws) (u ∷ us) h = ((at_numbers requests l, h.0), only_asked requests ls ws us h.1)

  module _ (P : List (Kind S) → Type 0) where
    -- what requests leave holds of each lane later on
    pub each_later : ((list : List Request) (a b : List (Kind S)) → AsksLane seen schema list a b → P a → P b)
        → (old new : List (Lane S)) → OnlyAsked old new → OnEach old P → OnEach new P
    each_later keeps [] [] h all = λ lane among. absurd (omega arith)
    each_later keeps [] (u ∷ us) h all = absurd h
    each_later keeps (w ∷ ws) [] h all = absurd h
    each_later keeps (w ∷ ws) (u ∷ us) h all = λ lane among. elim (contains_cases u us lane among) [
      | inl here ↦ subst (λ (x : Lane S). P x.kinds.items) here
          (keeps h.0.0 w.kinds.items u.kinds.items h.0.1 (all w (contains_here w ws)))
      | inr there ↦ each_later keeps ws us h.1 (λ x c. all x (contains_there w ws x c)) lane there
    ]

    -- and what requests do not bring about held before
    pub each_earlier : ((list : List Request) (a b : List (Kind S)) → AsksLane seen schema list a b → P b → P a)
        → (old new : List (Lane S)) → OnlyAsked old new → OnEach new P → OnEach old P
    each_earlier keeps [] [] h all = λ lane among. absurd (omega arith)
    each_earlier keeps [] (u ∷ us) h all = absurd h
    each_earlier keeps (w ∷ ws) [] h all = absurd h
    each_earlier keeps (w ∷ ws) (u ∷ us) h all = λ lane among. elim (contains_cases w ws lane among) [
      | inl here ↦ subst (λ (x : Lane S). P x.kinds.items) here
          (keeps h.0.0 w.kinds.items u.kinds.items h.0.1 (all u (contains_here u us)))
      | inr there ↦ each_earlier keeps ws us h.1 (λ x c. all x (contains_there u us x c)) lane there
    ]
