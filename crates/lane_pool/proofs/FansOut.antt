-- From what the lanes did to the contract of `fan_out`.
use Rattle.std.proofs.Common.{◌≡◌, ◌≢◌, ℕ, zero, suc, ◌+◌, ◌*◌, ◌^◌, ◌<◌, ◌≤◌, inl, inr, List, [], ◌∷◌, ◌++◌, length, map, set, replicate, All, refl, sym, ap, ◌∙◌, subst, arith, length-append, Some, None, Option, rules}
use Rattle.std.specs.Prelude.{slice_get, IsSome}
use Rattle.std.specs.List.Sorted.{IsStrictlyIncreasing}
use Rattle.std.proofs.Math.ListN.{get_or-append}
use native.Mathlib.Decide.{dec_le, ℕ_discrete}
use mathlib.Core.Logic.{dite}
use Rattle.std.proofs.lemmas.List.{length-map}
use Rattle.lists.proofs.Members.{some_injective}
use Rattle.lane_pool.specs.Numbers.{total, times, hit, EachOnce, AllAscend}
use Rattle.lane_pool.specs.Work.{WorkedBy, AllWorked, FansOut}
use Rattle.lane_pool.specs.Lanes.{Steps, Stops, LaneDid, LanesDid, LanesEnded}
use Rattle.lane_pool.specs.Places.{flat, put_at}
use Rattle.lane_pool.proofs.Totals.{total-append, times-same, times-other, hit-same, hit-other}
use Rattle.lane_pool.proofs.DrawSteps.{no_longer}
use Rattle.lane_pool.proofs.Places.{length-put}

-- A list of lists has as many numbers as it has different ones, where each stands once
abbrev joined_lists : List (List ℕ) → List ℕ
joined_lists [] = []
joined_lists (l ∷ ls) = l ++ joined_lists ls

times-joined : (k : ℕ) (ls : List (List ℕ)) → times k (joined_lists ls) ≡ total (times k) ls
times-joined k [] = refl
times-joined k (l ∷ ls) = let t = times-joined k ls in let a = total-append (hit k) l (joined_lists ls) in omega arith

length-joined : (ls : List (List ℕ)) → length (joined_lists ls) ≡ total length ls
length-joined [] = refl
length-joined (l ∷ ls) = let t = length-joined ls in let a = length-append l (joined_lists ls) in omega arith

-- the numbers below n, the greatest first
abbrev below : ℕ → List ℕ
below zero = []
below (suc n) = n ∷ below n

length-below : (n : ℕ) → length (below n) ≡ n
length-below zero = refl
length-below (suc n) = ap suc (length-below n)

times-below_none : (k n : ℕ) → n ≤ k → times k (below n) ≡ 0
times-below_none k zero h = refl
times-below_none k (suc n) h = let t = times-below_none k n (omega arith) in let z = hit-other k n (omega arith) in omega arith

times-below : (k n : ℕ) → k < n → times k (below n) ≡ 1
times-below k zero h = absurd (omega arith)
times-below k (suc n) h = dite (ℕ_discrete n k)
    (λ (e : n ≡ k). let t = times-below_none k n (omega arith) in let o = subst (λ m. hit k m ≡ 1) (sym e) (hit-same k) in omega arith)
    (λ (ne : n ≢ k). let t = times-below k n (omega arith) in let z = hit-other k n ne in omega arith)

pub counted : (ls : List (List ℕ)) (n : ℕ) → ((k : ℕ) → k < n → total (times k) ls ≡ 1) → ((k : ℕ) → n ≤ k → total (times k) ls ≡ 0) → total length ls ≡ n
counted ls n once none =
    let same = (λ (k : ℕ). elim (dec_le n k) as (λ _. times k (joined_lists ls) ≡ times k (below n)) [
      | yes d ↦ times-joined k ls ∙ (none k d ∙ sym (times-below_none k n d))
      | no d ↦ times-joined k ls ∙ (once k (omega arith) ∙ sym (times-below k n (omega arith)))
    ]) in
    let a = no_longer (joined_lists ls) (below n) (λ k. let s = same k in omega arith) in
    let b = no_longer (below n) (joined_lists ls) (λ k. let s = same k in omega arith) in
    let c = length-joined ls in let d = length-below n in omega arith

-- the start of an ascending list ascends
ascend_start : (xs ys : List ℕ) → IsStrictlyIncreasing (xs ++ ys) → IsStrictlyIncreasing xs
ascend_start xs ys up k h =
    let a = length-append xs ys in
    let p = get_or-append xs ys 0 k (omega arith) in let q = get_or-append xs ys 0 (k + 1) h in let u = up k (omega arith) in omega arith

slice_get-below : {X : Type 0} (xs : List X) (k : ℕ) (x : X) → slice_get xs k ≡ Some x → k < length xs
slice_get-below [] k x e = absurd (cc)
slice_get-below (y ∷ ys) zero x e = omega arith
slice_get-below (y ∷ ys) (suc k) x e = let t = slice_get-below ys k x e in omega arith

module _ {W I A : Type 0} (did : W → I → A → W → Type 0) (items : List I) where
  abbrev firsts : List (ℕ × A) → List ℕ
  firsts ds = map (λ d. d.0) ds

  -- `LanesDid` as a relation with two rules
  data Each : List (List ℕ) → List (List (ℕ × A)) → List W → List W → Type 0 where
    none : Each [] [] [] []
    lane : {o : List ℕ} {os : List (List ℕ)} {r : List (ℕ × A)} {rs : List (List (ℕ × A))} {w : W} {ws : List W} {u : W} {us : List W} → LaneDid did items o r w u → Each os rs ws us → Each (o ∷ os) (r ∷ rs) (w ∷ ws) (u ∷ us)

  each : (os : List (List ℕ)) (rs : List (List (ℕ × A))) (ws us : List W) → LanesDid did items os rs ws us → Each os rs ws us
  each [] [] [] [] h = none
  each [] [] [] (u ∷ us) h = absurd h
  each [] [] (w ∷ ws) [] h = absurd h
  each [] [] (w ∷ ws) (u ∷ us) h = absurd h
  each [] (r ∷ rs) [] [] h = absurd h
  each [] (r ∷ rs) [] (u ∷ us) h = absurd h
  each [] (r ∷ rs) (w ∷ ws) [] h = absurd h
  each [] (r ∷ rs) (w ∷ ws) (u ∷ us) h = absurd h
  each (o ∷ os) [] [] [] h = absurd h
  each (o ∷ os) [] [] (u ∷ us) h = absurd h
  each (o ∷ os) [] (w ∷ ws) [] h = absurd h
  each (o ∷ os) [] (w ∷ ws) (u ∷ us) h = absurd h
  each (o ∷ os) (r ∷ rs) [] [] h = absurd h
  each (o ∷ os) (r ∷ rs) [] (u ∷ us) h = absurd h
  each (o ∷ os) (r ∷ rs) (w ∷ ws) [] h = absurd h
  each (o ∷ os) (r ∷ rs) (w ∷ ws) (u ∷ us) h = lane h.0 (each os rs ws us h.1)

  inside : (r : List (ℕ × A)) (w u : W) → Steps did items r w u → (k : ℕ) → length items ≤ k → times k (firsts r) ≡ 0
  inside [] w u s k h = refl
  inside (d ∷ ds) w u s k h =
      let b = slice_get-below items d.0 s.0 s.2 in
      let z = hit-other k d.0 (omega arith) in let t = inside ds s.1 u s.4 k h in omega arith

  -- the numbers of items that a lane drew are those that it worked
  lane_times : (own : List ℕ) (r : List (ℕ × A)) → Stops did items own r → (k : ℕ) → k < length items → times k own ≡ times k (firsts r)
  lane_times own r (inl x) k h = ap (times k) x.2 ∙ times-other k x.0 (firsts r) (λ e. let b = x.1 in omega arith)
  lane_times own r (inr x) k h = ap (times k) x.0

  each_times : {os : List (List ℕ)} {rs : List (List (ℕ × A))} {ws us : List W} → Each os rs ws us → (k : ℕ) → k < length items → total (times k) os ≡ total (times k) (map firsts rs)
  each_times none k h = refl
  each_times (lane {o} {os} {r} d e) k h = let a = lane_times o r d.0 k h in let t = each_times e k h in omega arith

  each_none : {os : List (List ℕ)} {rs : List (List (ℕ × A))} {ws us : List W} → Each os rs ws us → (k : ℕ) → length items ≤ k → total (times k) (map firsts rs) ≡ 0
  each_none none k h = refl
  each_none (lane {r = r} {w = w} {u = u} d e) k h = let a = inside r w u d.1 k h in let t = each_none e k h in omega arith

  lane_ascend : (own : List ℕ) (r : List (ℕ × A)) → Stops did items own r → IsStrictlyIncreasing own → IsStrictlyIncreasing (firsts r)
  lane_ascend own r (inl x) up = ascend_start (firsts r) (x.0 ∷ []) (subst IsStrictlyIncreasing x.2 up)
  lane_ascend own r (inr x) up = subst IsStrictlyIncreasing x.0 up

  each_ascend : {os : List (List ℕ)} {rs : List (List (ℕ × A))} {ws us : List W} → Each os rs ws us → AllAscend os → AllAscend (map firsts rs)
  each_ascend none up = tt
  each_ascend (lane {o} {os} {r} d e) up = (lane_ascend o r d.0 up.0, each_ascend e up.1)

  length-firsts : (r : List (ℕ × A)) → length (firsts r) ≡ length r
  length-firsts [] = refl
  length-firsts (d ∷ ds) = ap suc (length-firsts ds)

  lane_length : (own : List ℕ) (r : List (ℕ × A)) → Stops did items own r → length own ≤ length items + 1
  lane_length own r (inl x) = let f = length-firsts r in let a = ap length x.2 in let b = length-append (firsts r) (x.0 ∷ []) in let c = x.3 in omega arith
  lane_length own r (inr x) = let f = length-firsts r in let a = ap length x.0 in let c = x.1 in omega arith

  abbrev each_room : List W → ℕ
  each_room ws = total (λ _. length items + 1) ws

  each_length : {os : List (List ℕ)} {rs : List (List (ℕ × A))} {ws us : List W} → Each os rs ws us → total length os ≤ each_room ws
  each_length none = omega arith
  each_length (lane {o} {os} {r} d e) = let a = lane_length o r d.0 in let t = each_length e in omega arith

  short_room : (ws : List W) (c : ℕ) → length items ≤ 1000000 → length ws ≤ c → each_room ws ≤ c * 1000001
  short_room [] c small h = omega arith
  short_room (w ∷ ws) zero small h = absurd (omega arith)
  short_room (w ∷ ws) (suc c) small h = let t = short_room ws c small (omega arith) in omega arith

  -- all lanes together drew fewer numbers than a word can count
  pub short : (os : List (List ℕ)) (rs : List (List (ℕ × A))) (ws us : List W) → LanesDid did items os rs ws us → length items ≤ 1000000 → length ws ≤ 8 → total length os < 2 ^ 64
  short os rs ws us h small few = let a = each_length (each os rs ws us h) in let b = short_room ws 8 small few in omega arith

  times_last : (m : ℕ) (xs : List ℕ) → 0 < times m (xs ++ m ∷ [])
  times_last m xs = let t = times-same m xs in omega arith

  stopped : (o : List ℕ) (os : List (List ℕ)) (r : List (ℕ × A)) (word : ℕ) → Stops did items o r → EachOnce (o ∷ os) word → length items ≤ word
  stopped o os r word (inl x) once = elim (dec_le word x.0) [
    | yes out ↦ absurd (let z = once.2 x.0 out in let t = times_last x.0 (firsts r) in let q = ap (times x.0) x.2 in omega arith)
    | no in' ↦ let b = x.1 in omega arith
  ]
  stopped o os r word (inr x) once = let a = ap length x.0 in let f = length-firsts r in let c = x.1 in let l = once.0 in omega arith

  -- a lane that has stopped shows that the word has passed the items
  enough : {os : List (List ℕ)} {rs : List (List (ℕ × A))} {ws us : List W} (word : ℕ) → Each os rs ws us → 0 < length ws → EachOnce os word → length items ≤ word
  enough word none some_lane once = absurd (omega arith)
  enough word (lane {o} {os} {r} d e) some_lane once = stopped o os r word d.0 once

  -- the numbers that the lanes worked are those of the items, each once
  pub worked_once : (os : List (List ℕ)) (rs : List (List (ℕ × A))) (ws us : List W) (word : ℕ) → LanesDid did items os rs ws us → 0 < length ws → EachOnce os word → EachOnce (map firsts rs) (length items)
  worked_once os rs ws us word h some_lane once =
      let e = each os rs ws us h in
      let far = enough word e some_lane once in
      let one = (λ (k : ℕ) (b : k < length items). let t = each_times e k b in (let q : total (times k) (map firsts rs) ≡ 1 = sym t ∙ once.1 k (omega arith) in q)) in
      (counted (map firsts rs) (length items) one (each_none e), one, each_none e)

  -- the sheets as one
  times-flat : (k : ℕ) (rs : List (List (ℕ × A))) → times k (firsts (flat rs)) ≡ total (times k) (map firsts rs)
  times-flat k [] = refl
  times-flat k (r ∷ rs) = let t = times-flat k rs in let a = times-append k r (flat rs) in omega arith
    where
      times-append : (k : ℕ) (xs ys : List (ℕ × A)) → times k (firsts (xs ++ ys)) ≡ times k (firsts xs) + times k (firsts ys)
      times-append k [] ys = omega arith
      times-append k (x ∷ xs) ys = let t = times-append k xs ys in omega arith

slice_get-set : {X : Type 0} (xs : List X) (k : ℕ) (x : X) → k < length xs → slice_get (set xs k x) k ≡ Some x
slice_get-set [] k x h = absurd (omega arith)
slice_get-set (y ∷ ys) zero x h = refl
slice_get-set (y ∷ ys) (suc k) x h = slice_get-set ys k x (omega arith)

slice_get-set_other : {X : Type 0} (xs : List X) (k j : ℕ) (x : X) → k ≢ j → slice_get (set xs k x) j ≡ slice_get xs j
slice_get-set_other [] k j x h = refl
slice_get-set_other (y ∷ ys) zero zero x h = absurd (h refl)
slice_get-set_other (y ∷ ys) zero (suc j) x h = refl
slice_get-set_other (y ∷ ys) (suc k) zero x h = refl
slice_get-set_other (y ∷ ys) (suc k) (suc j) x h = slice_get-set_other ys k j x (λ e. h (ap suc e))

slice_get-all : {X : Type 0} (P : X → Type 0) (xs : List X) → ((k : ℕ) → k < length xs → (x : X) × (slice_get xs k ≡ Some x) × P x) → All P xs
slice_get-all P [] h k d b = absurd (omega arith)
slice_get-all P (x ∷ xs) h zero d b = let t = h 0 (omega arith) in subst P (sym (some_injective x t.0 t.1)) t.2
slice_get-all P (x ∷ xs) h (suc k) d b = slice_get-all P xs (λ j c. h (suc j) (omega arith)) k d (omega arith)

module _ {A : Type 0} where
  abbrev numbers : List (ℕ × A) → List ℕ
  numbers ds = map (λ d. d.0) ds

  -- each answer stands at its place
  abbrev pub AllPut : List (Option A) → List (ℕ × A) → Type 0
  AllPut qs [] = Unit {0}
  AllPut qs (d ∷ ds) = (slice_get qs d.0 ≡ Some (Some d.1)) × AllPut qs ds

  keep_put : (qs : List (Option A)) (es : List (ℕ × A)) (k : ℕ) (x : Option A) → times k (numbers es) ≡ 0 → AllPut qs es → AllPut (set qs k x) es
  keep_put qs [] k x z h = tt
  keep_put qs (e ∷ es) k x z h = dite (ℕ_discrete k e.0)
      (λ (same : k ≡ e.0). absurd (let o = subst (λ m. hit m e.0 ≡ 1) (sym same) (hit-same e.0) in omega arith))
      (λ (apart : k ≢ e.0). (slice_get-set_other qs k e.0 x apart ∙ h.0, keep_put qs es k x (omega arith) h.1))

  pub all_put : (ps : List (Option A)) (ds : List (ℕ × A)) → ((k : ℕ) → times k (numbers ds) ≤ 1) → ((k : ℕ) → length ps ≤ k → times k (numbers ds) ≡ 0) → AllPut (put_at ps ds) ds
  all_put ps [] once far = tt
  all_put ps (d ∷ ds) once far =
      let one = hit-same d.0 in
      let o = once d.0 in
      let inside : d.0 < length ps = elim (dec_le (length ps) d.0) [ yes out ↦ absurd (let z = far d.0 out in omega arith) | no in' ↦ omega arith ] in
      let t = all_put ps ds (λ k. let a = once k in omega arith) (λ k h. let a = far k h in omega arith) in
      let len = length-put ps ds in
      (slice_get-set (put_at ps ds) d.0 (Some d.1) (omega arith), keep_put (put_at ps ds) ds d.0 (Some d.1) (omega arith) t)

  -- a number that has an answer has it at its place
  has_put : (qs : List (Option A)) (ds : List (ℕ × A)) (k : ℕ) → 0 < times k (numbers ds) → AllPut qs ds → (a : A) × (slice_get qs k ≡ Some (Some a))
  has_put qs [] k h p = absurd (omega arith)
  has_put qs (d ∷ ds) k h p = dite (ℕ_discrete d.0 k)
      (λ (same : d.0 ≡ k). (d.1, subst (λ m. slice_get qs m ≡ Some (Some d.1)) same p.0))
      (λ (apart : d.0 ≢ k). has_put qs ds k (let z = hit-other k d.0 apart in omega arith) p.1)

  is_some_of : (a : A) → IsSome (Some a)
  is_some_of a = search rules

  pub all_full : (qs : List (Option A)) (ds : List (ℕ × A)) → ((k : ℕ) → k < length qs → 0 < times k (numbers ds)) → AllPut qs ds → All (λ p. IsSome p) qs
  all_full qs ds h p = slice_get-all (λ q. IsSome q) qs (λ k b. let t = has_put qs ds k (h k b) p in (Some t.0, t.1, is_some_of t.0))

  pub put_left : (qs : List (Option A)) (xs ys : List (ℕ × A)) → AllPut qs (xs ++ ys) → AllPut qs xs
  put_left qs [] ys h = tt
  put_left qs (x ∷ xs) ys h = (h.0, put_left qs xs ys h.1)

  pub put_right : (qs : List (Option A)) (xs ys : List (ℕ × A)) → AllPut qs (xs ++ ys) → AllPut qs ys
  put_right qs [] ys h = h
  put_right qs (x ∷ xs) ys h = put_right qs xs ys h.1

  pub put_answer : (answers : List A) (k : ℕ) (a : A) → slice_get (map Some answers) k ≡ Some (Some a) → slice_get answers k ≡ Some a
  put_answer [] k a e = absurd (cc)
  put_answer (x ∷ xs) zero a e = cc
  put_answer (x ∷ xs) (suc k) a e = put_answer xs k a e

all_inside : {A : Type 0} (n : ℕ) (ds : List (ℕ × A)) → ((k : ℕ) → n ≤ k → times k (map (λ (d : ℕ × A). d.0) ds) ≡ 0) → All (λ (d : ℕ × A). d.0 < n) ds
all_inside n [] h k e b = absurd (omega arith)
all_inside n (d ∷ ds) h zero e b = elim (dec_le n d.0) [ yes far ↦ absurd (let z = h d.0 far in let o = hit-same d.0 in omega arith) | no near ↦ omega arith ]
all_inside n (d ∷ ds) h (suc k) e b = all_inside n ds (λ j far. let z = h j far in omega arith) k e (omega arith)

module _ {W I A : Type 0} (did : W → I → A → W → Type 0) (items : List I) where
  abbrev pub sheet_numbers : List (ℕ × A) → List ℕ
  sheet_numbers ds = map (λ d. d.0) ds

  worked_by : (answers : List A) (r : List (ℕ × A)) (w u : W) → Steps did items r w u → AllPut (map Some answers) r → WorkedBy did items answers (sheet_numbers r) w u
  worked_by answers [] w u s p = s
  worked_by answers (d ∷ ds) w u s p = (s.0, d.1, s.1, s.2, put_answer answers d.0 d.1 p.0, s.3, worked_by answers ds s.1 u s.4 p.1)

  all_worked : (answers : List A) {os : List (List ℕ)} {rs : List (List (ℕ × A))} {ws us : List W} → Each did items os rs ws us → AllPut (map Some answers) (flat rs) → AllWorked did items answers (map sheet_numbers rs) ws us
  all_worked answers none p = tt
  all_worked answers (lane {r = r} {rs = rs} {w = w} {u = u} d e) p =
      (worked_by answers r w u d.1 (put_left (map Some answers) r (flat rs) p), all_worked answers e (put_right (map Some answers) r (flat rs) p))

  module _ (rs : List (List (ℕ × A))) (ws us : List W) (ended : LanesEnded did items rs ws us) (some_lane : 0 < length ws) (places : List (Option A)) (len : length places ≡ length items) where
    exact : EachOnce (map sheet_numbers rs) (length items)
    exact = worked_once did items ended.drawn rs ws us ended.word ended.did_all some_lane ended.once

    flat_times : (k : ℕ) → times k (sheet_numbers (flat rs)) ≡ total (times k) (map sheet_numbers rs)
    flat_times k = times-flat did items k rs

    put : AllPut (put_at places (flat rs)) (flat rs)
    put = all_put places (flat rs)
        (λ k. let f = flat_times k in elim (dec_le (length items) k) [ yes far ↦ let z = exact.2 k far in omega arith | no near ↦ let o = exact.1 k (omega arith) in omega arith ])
        (λ k far. let f = flat_times k in let z = exact.2 k (omega arith) in omega arith)

    -- each number names a place
    pub inside_places : All (λ (d : ℕ × A). d.0 < length places) (flat rs)
    inside_places = all_inside (length places) (flat rs) (λ k far. let f = flat_times k in let z = exact.2 k (omega arith) in omega arith)

    -- each place is filled
    pub full_places : All (λ p. IsSome p) (put_at places (flat rs))
    full_places = all_full (put_at places (flat rs)) (flat rs) (λ k b. let l = length-put places (flat rs) in let f = flat_times k in let o = exact.1 k (omega arith) in omega arith) put

    -- the contract
    pub fanned : (answers : List A) → map Some answers ≡ put_at places (flat rs) → FansOut did items answers ws us
    fanned answers is =
        let each_lane = each did items ended.drawn rs ws us ended.did_all in
        record {
          len = (let l = length-put places (flat rs) in let m = ap length is in let n = length-map answers Some in omega arith);
          lists = map sheet_numbers rs;
          ascend = each_ascend did items each_lane ended.ascend;
          once = exact;
          worked = all_worked answers each_lane (subst (λ qs. AllPut qs (flat rs)) (sym is) put);
        }
