-- Each step of `Draws` has room, and keeps its invariant.
use Rattle.std.proofs.Common.{◌≡◌, ◌≢◌, ℕ, zero, suc, ◌+◌, ◌<◌, ◌≤◌, List, [], ◌∷◌, ◌++◌, length, map, get_or, set, All, replicate, refl, sym, ap, ◌∙◌, subst, arith, length-append, length-set, vec_len, vec_capacity, add-one}
use Rattle.std.proofs.lemmas.List.{map-set, get_or-map, length-map, get_or-set_same, get_or-set_other}
use native.Mathlib.Decide.{ℕ_discrete}
use mathlib.Core.Logic.{dite}
use Rattle.lane_pool.specs.declared.draws.LaneNumbers.{LaneNumbers}
use Rattle.lane_pool.specs.declared.draws.Event.{Event}
use Rattle.lane_pool.specs.declared.draws.Event.TheVariants.{Draw, Done}
use Rattle.lane_pool.specs.Numbers.{total, times, hit}
use Rattle.lane_pool.specs.Core.{Lane, Core, idle, lane_at, after, MayCome, HasRoom, IsExact}
use Rattle.lane_pool.specs.Fields.{lane_of, core_of, IsRoomy, IsKept}
use Rattle.lane_pool.proofs.Totals.{total-append, times-same, times-other, hit-same, hit-other}
use Rattle.lane_pool.proofs.Exact.{step_exact, fresh_exact_at}

total-at : {X : Type 0} (f : X → ℕ) (xs : List X) (i : ℕ) (d : X) → i < length xs → f (get_or xs i d) ≤ total f xs
total-at f [] i d h = absurd (omega arith)
total-at f (x ∷ xs) zero d h = omega arith
total-at f (x ∷ xs) (suc i) d h = let t = total-at f xs i d (omega arith) in omega arith

-- the list without the first k in it
without : ℕ → List ℕ → List ℕ
without k [] = []
without k (x ∷ xs) = dite (ℕ_discrete x k) (λ _. xs) (λ _. x ∷ without k xs)

removed : (k : ℕ) (xs : List ℕ) → 0 < times k xs → (ys : List ℕ) × (length xs ≡ length ys + 1) × ((j : ℕ) → times j xs ≡ times j ys + hit j k)
removed k [] h = absurd (omega arith)
removed k (x ∷ xs) h = dite (ℕ_discrete x k)
    (λ (same : x ≡ k). (xs, omega arith, λ j. let e : hit j x ≡ hit j k = ap (hit j) same in omega arith))
    (λ (apart : x ≢ k). let z = hit-other k x apart in
    let r = removed k xs (omega arith) in (x ∷ r.0, (let q = r.1 in omega arith), λ j. let q = r.2 j in omega arith))

-- a list in which each number stands as often at most is no longer
pub no_longer : (xs ys : List ℕ) → ((k : ℕ) → times k xs ≤ times k ys) → length xs ≤ length ys
no_longer [] ys h = omega arith
no_longer (x ∷ xs) ys h =
    let one = hit-same x in
    let hx = h x in
    let r = removed x ys (omega arith) in
    let t = no_longer xs r.0 (λ k. let a = h k in let b = r.2 k in omega arith) in
    let q = r.1 in omega arith

module _ (counter room : ℕ) (lanes : List LaneNumbers) (i : ℕ) (x : LaneNumbers) (in' : i < length lanes) (is : x ≡ get_or lanes i x) (kept : IsKept counter room lanes) where
  roomy : IsRoomy room x
  roomy = subst (IsRoomy room) (sym is) (kept.2 i x in')

  lane_is : lane_at (map lane_of lanes) i ≡ lane_of x
  lane_is = get_or-map lane_of lanes i x idle in' ∙ ap lane_of (sym is)

  short : length x.drawn.items ≤ counter
  short =
      let t = total-at (λ (l : LaneNumbers). length l.drawn.items) lanes i x in' in
      let e = ap (λ (l : LaneNumbers). length l.drawn.items) is in
      let s = sums lanes in
      let c = kept.1.0 in
      omega arith
    where
      sums : (ls : List LaneNumbers) → total (λ (l : LaneNumbers). length l.drawn.items) ls ≡ total length (map (λ (l : Lane). l.drawn) (map lane_of ls))
      sums [] = refl
      sums (y ∷ ys) = ap (λ n. length y.drawn.items + n) (sums ys)

  set_all : (w : LaneNumbers) → IsRoomy room w → All (IsRoomy room) (set lanes i w)
  set_all w h k d below = dite (ℕ_discrete i k)
      (λ (e : i ≡ k). subst (IsRoomy room) (sym (subst (λ m. get_or (set lanes i w) m d ≡ w) e (get_or-set_same lanes i w d in'))) h)
      (λ (ne : i ≢ k). subst (IsRoomy room) (sym (get_or-set_other lanes i k w d (λ e. ne (sym e)))) (kept.2 k d (subst (λ n. k < n) (length-set lanes i w) below)))

  pub draw_room : counter < room → vec_len x.drawn < vec_capacity x.drawn
  draw_room h = let r = roomy in let s = short in let a = r.0 in let b = r.2 in omega arith

  pub draw_core : (w : LaneNumbers) → w.drawn.items ≡ x.drawn.items ++ counter ∷ [] → w.done.items ≡ x.done.items → core_of (counter + 1) room (set lanes i w) ≡ after (core_of counter room lanes) (Draw i)
  draw_core w drawn done =
      let ls : List Lane = map lane_of lanes in
      let e : map lane_of (set lanes i w) ≡ set ls i record { drawn = (lane_at ls i).drawn ++ counter ∷ []; done = (lane_at ls i).done } =
      map-set lane_of lanes i w ∙ ap (λ l. set ls i l) (λ k. record { drawn = (drawn ∙ ap (λ (l : Lane). l.drawn ++ counter ∷ []) (sym lane_is)) k; done = (done ∙ ap (λ (l : Lane). l.done) (sym lane_is)) k }) in
      ap (λ (l : List Lane). record { counter = counter + 1; room = room; lanes = l }) e

  pub draw_kept : (w : LaneNumbers) → w.drawn.items ≡ x.drawn.items ++ counter ∷ [] → w.done.items ≡ x.done.items → vec_len w.drawn ≡ vec_len x.drawn + 1 → vec_len w.done ≡ vec_len x.done
      → vec_capacity w.drawn ≡ vec_capacity x.drawn → vec_capacity w.done ≡ vec_capacity x.done → counter < room → IsKept (counter + 1) room (set lanes i w)
  draw_kept w drawn done len len_done cap cap_done h =
      let r = roomy in (
        omega arith,
        subst IsExact (sym (draw_core w drawn done)) (step_exact (core_of counter room lanes) (Draw i) (subst (λ n. i < n) (sym (length-map lanes lane_of)) in') kept.1),
        set_all w (
          (let a = r.0 in omega arith),
          (let a = r.1 in omega arith),
          (let a = r.2 in let e = ap length drawn in let q = length-append x.drawn.items (counter ∷ []) in omega arith),
          (let a = r.3 in let e = ap length done in omega arith),
          (λ k. let a = r.4 k in let e = ap (times k) drawn in let d = ap (times k) done in let q = total-append (hit k) x.drawn.items (counter ∷ []) in omega arith),
        ),
      )

  more : (k : ℕ) → 0 < times k (lane_at (map lane_of lanes) i).drawn → times k (lane_at (map lane_of lanes) i).done ≡ 0 → (j : ℕ) → times j (x.done.items ++ k ∷ []) ≤ times j x.drawn.items
  more k drawn done j =
      let h = roomy.4 j in
      let a = subst (λ (l : Lane). 0 < times k l.drawn) lane_is drawn in
      let b = subst (λ (l : Lane). times k l.done ≡ 0) lane_is done in
      dite (ℕ_discrete k j)
      (λ (e : k ≡ j). let t = subst (λ m. times j (x.done.items ++ m ∷ []) ≡ times j x.done.items + 1) (sym e) (times-same j x.done.items) in
      let a' = subst (λ m. 0 < times m x.drawn.items) e a in let b' = subst (λ m. times m x.done.items ≡ 0) e b in omega arith)
      (λ (ne : k ≢ j). let t = times-other j k x.done.items ne in omega arith)

  pub done_room : (k : ℕ) → 0 < times k (lane_at (map lane_of lanes) i).drawn → times k (lane_at (map lane_of lanes) i).done ≡ 0 → vec_len x.done < vec_capacity x.done
  done_room k drawn done =
      let r = roomy in let s = short in let a = r.1 in let b = r.3 in let c = kept.0 in
      let t = no_longer (x.done.items ++ k ∷ []) x.drawn.items (more k drawn done) in
      let q = length-append x.done.items (k ∷ []) in omega arith

  pub done_core : (k : ℕ) (w : LaneNumbers) → w.done.items ≡ x.done.items ++ k ∷ [] → w.drawn.items ≡ x.drawn.items → core_of counter room (set lanes i w) ≡ after (core_of counter room lanes) (Done i k)
  done_core k w done drawn =
      let ls : List Lane = map lane_of lanes in
      let e : map lane_of (set lanes i w) ≡ set ls i record { drawn = (lane_at ls i).drawn; done = (lane_at ls i).done ++ k ∷ [] } =
      map-set lane_of lanes i w ∙ ap (λ l. set ls i l) (λ j. record { done = (done ∙ ap (λ (l : Lane). l.done ++ k ∷ []) (sym lane_is)) j; drawn = (drawn ∙ ap (λ (l : Lane). l.drawn) (sym lane_is)) j }) in
      ap (λ (l : List Lane). record { counter = counter; room = room; lanes = l }) e

  pub done_kept : (k : ℕ) (w : LaneNumbers) → w.done.items ≡ x.done.items ++ k ∷ [] → w.drawn.items ≡ x.drawn.items → vec_len w.done ≡ vec_len x.done + 1 → vec_len w.drawn ≡ vec_len x.drawn
      → vec_capacity w.done ≡ vec_capacity x.done → vec_capacity w.drawn ≡ vec_capacity x.drawn
      → 0 < times k (lane_at (map lane_of lanes) i).drawn → times k (lane_at (map lane_of lanes) i).done ≡ 0 → IsKept counter room (set lanes i w)
  done_kept k w done drawn len len_drawn cap cap_drawn was_drawn not_done =
      let r = roomy in (
        kept.0,
        subst IsExact (sym (done_core k w done drawn)) (step_exact (core_of counter room lanes) (Done i k) (subst (λ n. i < n) (sym (length-map lanes lane_of)) in', was_drawn, not_done) kept.1),
        set_all w (
          (let a = r.0 in omega arith),
          (let a = r.1 in omega arith),
          (let a = r.2 in let e = ap length drawn in omega arith),
          (let a = r.3 in let e = ap length done in let q = length-append x.done.items (k ∷ []) in omega arith),
          (λ j. let a = more k was_drawn not_done j in let e = ap (times j) drawn in let d = ap (times j) done in omega arith),
        ),
      )

-- new lanes, one after another
pub new_kept : (room n : ℕ) (lanes : List LaneNumbers) → map lane_of lanes ≡ replicate n idle → All (IsRoomy room) lanes → IsKept 0 room lanes
new_kept room n lanes is all = (omega arith, subst (λ (ls : List Lane). IsExact record { counter = 0; room = room; lanes = ls }) (sym is) (fresh_exact_at n room), all)

-- what is known of a core and an event, at two others that are equal to them
pub may : (m now : Core) (e f : Event) → m ≡ now → e ≡ f → MayCome now e → MayCome m f
may m now e f p q h = subst (λ x. MayCome x f) (sym p) (subst (λ x. MayCome now x) q h)

pub has_room : (m now : Core) (e f : Event) → m ≡ now → e ≡ f → HasRoom now e → HasRoom m f
has_room m now e f p q h = subst (λ x. HasRoom x f) (sym p) (subst (λ x. HasRoom now x) q h)

pub same_after : (m now w : Core) (e f : Event) → m ≡ now → e ≡ f → w ≡ after m f → w ≡ after now e
same_after m now w e f p q h = h ∙ λ i. after (p i) (sym q i)

suc_lanes : (n : ℕ) (lanes : List LaneNumbers) (l : LaneNumbers) → map lane_of lanes ≡ replicate n idle → lane_of l ≡ idle → map lane_of (lanes ++ l ∷ []) ≡ replicate (suc n) idle
suc_lanes zero [] l e h = λ i. h i ∷ []
suc_lanes zero (x ∷ xs) l e h = absurd (cc)
suc_lanes (suc n) [] l e h = absurd (cc)
suc_lanes (suc n) (x ∷ xs) l e h =
    let t = suc_lanes n xs l (ap tail e) h in
    let first : lane_of x ≡ idle = ap head_or e in
    λ i. first i ∷ t i
  where
    tail : List Lane → List Lane
    tail [] = []
    tail (y ∷ ys) = ys

    head_or : List Lane → Lane
    head_or [] = idle
    head_or (y ∷ ys) = y

-- one more new lane
pub one_lane_more : (n : ℕ) (lanes : List LaneNumbers) (l : LaneNumbers) → map lane_of lanes ≡ replicate n idle → lane_of l ≡ idle → map lane_of (lanes ++ l ∷ []) ≡ replicate (n + 1) idle
one_lane_more n lanes l e h = let t = suc_lanes n lanes l e h in rw add-one t
