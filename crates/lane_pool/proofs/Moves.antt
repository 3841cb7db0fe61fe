-- Each step keeps the rule.
use Rattle.std.proofs.Common.{◌≡◌, ◌≢◌, ℕ, zero, suc, ◌+◌, ◌%◌, ◌^◌, ◌<◌, ◌≤◌, ◌⊎◌, inl, inr, ⊎_elim, List, [], ◌∷◌, ◌++◌, length, get_or, set, refl, sym, ap, ◌∙◌, subst, arith, length-append}
use Rattle.std.proofs.Math.Nat.{mod-eq_of_lt}
use Rattle.std.proofs.Math.ListN.{get_or-append}
use Rattle.std.proofs.Math.Seq.{get_or-append_seam}
use Rattle.std.specs.List.Sorted.{IsStrictlyIncreasing}
use native.Mathlib.Decide.{dec_le}
use mathlib.Core.Option.{some, some-ne-none, some-injective}
use lib.ListN.{get_elem?}
use Rattle.atomic_table.specs.Table.{Me, opening, Allows, Splits, Joins, Final, Seen, keeps}
use Rattle.atomic_table.proofs.Lists.{at_set, at_snoc}
use Rattle.lane_pool.specs.declared.seats.View.{View}
use Rattle.lane_pool.specs.Numbers.{total, times, EachOnce, AllAscend}
use Rattle.lane_pool.specs.Seats.{view, spent, all_lists, AreExact, AreLong, Follows, RuleHolds, DrawsNumber, kept_half, new_half, joined}
use Rattle.lane_pool.proofs.Totals.{total-append, hit-same}
use Rattle.lane_pool.proofs.Exact.{one_more_by}

-- a sum over the views, after a change of one
total_set : {X : Type 0} (f : X → ℕ) (xs : List X) (i : ℕ) (v w : X) → get_elem? xs i ≡ some v → total f (set xs i w) + f v ≡ total f xs + f w
total_set f [] i v w e = absurd (some-ne-none v (sym e))
total_set f (x ∷ xs) zero v w e = let s = ap f (some-injective x v e) in omega arith
total_set f (x ∷ xs) (suc i) v w e = let t = total_set f xs i v w e in omega arith

-- the lists of all views, after a change of one, and after a new one
lists_set : (f : List ℕ → ℕ) (vs : List View) (i : ℕ) (v w : View) → get_elem? vs i ≡ some v → total f (all_lists (set vs i w)) + total f v.lists ≡ total f (all_lists vs) + total f w.lists
lists_set f [] i v w e = absurd (some-ne-none v (sym e))
lists_set f (x ∷ xs) zero v w e =
    let s = ap (λ (u : View). total f u.lists) (some-injective x v e) in
    let a = total-append f x.lists (all_lists xs) in let b = total-append f w.lists (all_lists xs) in omega arith
lists_set f (x ∷ xs) (suc i) v w e =
    let t = lists_set f xs i v w e in
    let a = total-append f x.lists (all_lists xs) in let b = total-append f x.lists (all_lists (set xs i w)) in omega arith

lists_snoc : (f : List ℕ → ℕ) (vs : List View) (w : View) → total f (all_lists (vs ++ w ∷ [])) ≡ total f (all_lists vs) + total f w.lists
lists_snoc f [] w = let a = total-append f w.lists [] in omega arith
lists_snoc f (x ∷ xs) w =
    let t = lists_snoc f xs w in
    let a = total-append f x.lists (all_lists xs) in let b = total-append f x.lists (all_lists (xs ++ w ∷ [])) in omega arith

-- no list of a view has more than all have
at_most : (f : List ℕ → ℕ) (vs : List View) (i : ℕ) (v : View) → get_elem? vs i ≡ some v → total f v.lists ≤ total f (all_lists vs)
at_most f vs i v e = let t = lists_set f vs i v spent e in omega arith

-- exact lists stay exact where they are only put elsewhere
moved : (old new : List (List ℕ)) (n : ℕ) → ((f : List ℕ → ℕ) → f [] ≡ 0 → total f new ≡ total f old) → EachOnce old n → EachOnce new n
moved old new n same e =
    ((let s = same length refl in let b = e.0 in omega arith), (λ k h. let s = same (times k) refl in let b = e.1 k h in omega arith), λ k h. let s = same (times k) refl in let b = e.2 k h in omega arith)

pub times_at : (l : List ℕ) (i : ℕ) → i < length l → 0 < times (get_or l i 0) l
times_at [] i h = absurd (omega arith)
times_at (x ∷ xs) zero h = let s = hit-same x in omega arith
times_at (x ∷ xs) (suc i) h = let t = times_at xs i (omega arith) in omega arith

ascend_snoc : (l : List ℕ) (n : ℕ) → IsStrictlyIncreasing l → ((i : ℕ) → i < length l → get_or l i 0 < n) → IsStrictlyIncreasing (l ++ n ∷ [])
ascend_snoc l n up below k h =
    let a = length-append l (n ∷ []) in
    elim (dec_le (suc (k + 1)) (length l)) [
      | yes d ↦
          let p = get_or-append l (n ∷ []) 0 k (omega arith) in
          let q = get_or-append l (n ∷ []) 0 (k + 1) (omega arith) in
          let u = up k (omega arith) in omega arith
      | no d ↦
          let p = get_or-append l (n ∷ []) 0 k (omega arith) in
          let at : k + 1 ≡ length l = omega arith in
          let q = subst (λ m. get_or (l ++ n ∷ []) m 0 ≡ n) (sym at) (get_or-append_seam l n [] 0) in
          let u = below k (omega arith) in omega arith
    ]

ascend_append : (xs ys : List (List ℕ)) → AllAscend xs → AllAscend ys → AllAscend (xs ++ ys)
ascend_append [] ys a b = b
ascend_append (x ∷ xs) ys a b = (a.0, ascend_append xs ys a.1 b)

-- a fact of each view, after a change of one
each_set : (P : View → Type 0) (vs : List View) (i : ℕ) (w : View) → ((j : ℕ) (u : View) → get_elem? vs j ≡ some u → P u) → P w → (j : ℕ) (u : View) → get_elem? (set vs i w) j ≡ some u → P u
each_set P vs i w all mine j u e =
    ⊎_elim (λ (x : (j ≡ i) × (w ≡ u)). subst P x.1 mine) (λ (x : (j ≢ i) × (get_elem? vs j ≡ some u)). all j u x.1) (at_set vs i j w u e)

each_snoc : (P : View → Type 0) (vs : List View) (w : View) → ((j : ℕ) (u : View) → get_elem? vs j ≡ some u → P u) → P w → (j : ℕ) (u : View) → get_elem? (vs ++ w ∷ []) j ≡ some u → P u
each_snoc P vs w all mine j u e = ⊎_elim (λ x. all j u x) (λ (x : w ≡ u). subst P x mine) (at_snoc vs w u j e)

abbrev Ups : View → Type 0
Ups v = AllAscend v.lists

abbrev Idle : View → Type 0
Idle v = v.parts ≡ 0 → v.lists ≡ []

pub opens : RuleHolds (opening (0 ∷ []) [] (view ([] ∷ []) 8))
opens = (0, refl, refl, each, inl (up, (refl, (λ k h. absurd (omega arith)), λ k h. refl)))
  where
    each : (j : ℕ) (v : View) → get_elem? (view ([] ∷ []) 8 ∷ []) j ≡ some v → Idle v
    each zero v e h = absurd (let s = ap (λ (u : View). u.parts) (some-injective _ _ e) in omega arith)
    each (suc j) v e h = absurd (some-ne-none v (sym e))

    up : (j : ℕ) (v : View) → get_elem? (view ([] ∷ []) 8 ∷ []) j ≡ some v → Ups v
    up zero v e = subst Ups (some-injective _ _ e) ((λ k h. absurd (omega arith)), tt)
    up (suc j) v e = absurd (some-ne-none v (sym e))

-- a number is drawn
drawn_at : (n : ℕ) (vs : List View) (id : ℕ) (l : List ℕ) (ls : List (List ℕ)) (parts : ℕ) → 0 < parts → n < 2 ^ 64 → get_elem? vs id ≡ some (view (l ∷ ls) parts) → Follows (n ∷ []) vs
    → Follows ((n + 1) % 2 ^ 64 ∷ []) (set vs id (view ((l ++ n ∷ []) ∷ ls) parts))
drawn_at n vs id l ls parts some_part fits at h = (
  (n + 1) % 2 ^ 64,
  refl,
  (let t = total_set (λ (u : View). u.parts) vs id v w at in let b = h.2 in omega arith),
  each_set Idle vs id w h.3 (λ none. absurd (omega arith)),
  ⊎_elim exact (λ (long : AreLong vs). inr (let m = longer in omega arith)) h.4,
)
  where
    v : View
    v = view (l ∷ ls) parts

    w : View
    w = view ((l ++ n ∷ []) ∷ ls) parts

    new : List View
    new = set vs id w

    more : (f : List ℕ → ℕ) → total f (all_lists new) + f l ≡ total f (all_lists vs) + f (l ++ n ∷ [])
    more f = let t = lists_set f vs id v w at in omega arith

    longer : total length (all_lists new) ≡ total length (all_lists vs) + 1
    longer = let m = more length in let a = length-append l (n ∷ []) in omega arith

    word : h.0 ≡ n
    word = sym (ap (λ xs. get_or xs 0 0) h.1)

    smaller : EachOnce (all_lists vs) n → (i : ℕ) → i < length l → get_or l i 0 < n
    smaller once i b = elim (dec_le n (get_or l i 0)) [
      | yes d ↦ absurd (let z = once.2 (get_or l i 0) d in let t = times_at l i b in let u = at_most (times (get_or l i 0)) vs id v at in omega arith)
      | no d ↦ omega arith
    ]

    exact : AreExact h.0 vs → AreExact ((n + 1) % 2 ^ 64) new ⊎ AreLong new
    exact e = elim (dec_le (n + 2) (2 ^ 64)) [
      | yes d ↦
          let once = subst (EachOnce (all_lists vs)) word e.1 in
          let next = one_more_by (all_lists vs) (all_lists new) l n more once in
          let below = (λ (i : ℕ) (b : i < length l). smaller once i b) in
          let ups = e.0 id v at in
          inl (each_set Ups vs id w e.0 (ascend_snoc l n ups.0 below, ups.1), subst (EachOnce (all_lists new)) (sym (mod-eq_of_lt (omega arith))) next)
      | no d ↦ inr (let m = longer in let b = e.1.0 in let q = word in omega arith)
    ]

pub draws : (slots id : ℕ) (l : List ℕ) (ls : List (List ℕ)) (parts : ℕ) → 0 < parts → Allows RuleHolds slots id (view (l ∷ ls) parts, []) 0 (λ n. (n + 1) % 2 ^ 64) (DrawsNumber (view (l ∷ ls) parts, []))
draws slots id l ls parts some_part s h len at fits =
    let F : List ℕ → Type 0 = λ ws. Follows (set ws 0 ((get_or ws 0 0 + 1) % 2 ^ 64)) (set s.views id (view ((l ++ get_or ws 0 0 ∷ []) ∷ ls) parts)) in
    let fits_here = subst (λ ws. get_or ws 0 0 < 18446744073709551616) h.1 fits in
    let step = drawn_at h.0 s.views id l ls parts some_part fits_here at (subst (λ ws. Follows ws s.views) h.1 h) in
    (view ((l ++ get_or s.words 0 0 ∷ []) ∷ ls) parts, keeps, tt, subst F (sym h.1) step, refl)

-- the same, at a seat that is known to have one list
pub draws_as : (slots id : ℕ) (me : Me (Unit {0}) View) (l : List ℕ) (parts : ℕ) → me ≡ (view (l ∷ []) parts, []) → 0 < parts → Allows RuleHolds slots id me 0 (λ n. (n + 1) % 2 ^ 64) (DrawsNumber me)
draws_as slots id me l parts is some_part = subst (λ (m : Me (Unit {0}) View). Allows RuleHolds slots id m 0 (λ n. (n + 1) % 2 ^ 64) (DrawsNumber m)) (sym is) (draws slots id l [] parts some_part)

pub drawn_me : (me after : Me (Unit {0}) View) (k : ℕ) (l : List ℕ) (parts : ℕ) → me ≡ (view (l ∷ []) parts, []) → DrawsNumber me k after → after ≡ (view ((l ++ k ∷ []) ∷ []) parts, [])
drawn_me me after k l parts is d = subst (λ (m : Me (Unit {0}) View). DrawsNumber m k after) is d

-- a seat is split off
pub splits : (id : ℕ) (v : View) → 2 ≤ v.parts → Splits RuleHolds id v (kept_half v) (new_half v)
splits id v two s h at = (
  h.0,
  h.1,
  (let t = total_set (λ (u : View). u.parts) s.views id v (kept_half v) at in let p = total-append (λ (u : View). u.parts) (set s.views id (kept_half v)) (new_half v ∷ []) in let b = h.2 in omega arith),
  each_snoc Idle kept (new_half v) (each_set Idle s.views id (kept_half v) h.3 (λ none. absurd (omega arith))) (λ none. absurd (omega arith)),
  ⊎_elim
      (λ (e : AreExact h.0 s.views). inl (each_snoc Ups kept (new_half v) (each_set Ups s.views id (kept_half v) e.0 (e.0 id v at)) ((λ k b. absurd (omega arith)), tt), moved (all_lists s.views) (all_lists new) h.0 same e.1))
      (λ (long : AreLong s.views). inr (let m = same length refl in omega arith))
      h.4,
)
  where
    kept : List View
    kept = set s.views id (kept_half v)

    new : List View
    new = kept ++ new_half v ∷ []

    same : (f : List ℕ → ℕ) → f [] ≡ 0 → total f (all_lists new) ≡ total f (all_lists s.views)
    same f z = let a = lists_set f s.views id v (kept_half v) at in let b = lists_snoc f kept (new_half v) in omega arith

-- a seat is joined
pub joins : (id other : ℕ) (v w : View) → Joins RuleHolds id v other w (joined v w) spent
joins id other v w s h at apart there = (
  h.0,
  h.1,
  (let t = total_set (λ (u : View). u.parts) s.views id v (joined v w) at in let p = total_set (λ (u : View). u.parts) kept other w spent there in let b = h.2 in omega arith),
  each_set Idle kept other spent (each_set Idle s.views id (joined v w) h.3 both_idle) (λ none. refl),
  ⊎_elim
      (λ (e : AreExact h.0 s.views). inl (each_set Ups kept other spent (each_set Ups s.views id (joined v w) e.0 (ascend_append v.lists w.lists (e.0 id v at) (e.0 other w was))) tt, moved (all_lists s.views) (all_lists new) h.0 same e.1))
      (λ (long : AreLong s.views). inr (let m = same length refl in omega arith))
      h.4,
)
  where
    kept : List View
    kept = set s.views id (joined v w)

    new : List View
    new = set kept other spent

    was : get_elem? s.views other ≡ some w
    was = ⊎_elim (λ (t : (other ≡ id) × (joined v w ≡ w)). absurd (apart t.0)) (λ (t : (other ≢ id) × (get_elem? s.views other ≡ some w)). t.1) (at_set s.views id other (joined v w) w there)

    both_idle : Idle (joined v w)
    both_idle none = let a = h.3 id v at (omega arith) in let b = h.3 other w was (omega arith) in λ i. a i ++ b i

    same : (f : List ℕ → ℕ) → f [] ≡ 0 → total f (all_lists new) ≡ total f (all_lists s.views)
    same f z = let a = lists_set f s.views id v (joined v w) at in let b = lists_set f kept other w spent there in let c = total-append f v.lists w.lists in omega arith

-- the seat with all parts closes the table: its lists are all lists
spent_lists : (f : List ℕ → ℕ) (vs : List View) → total (λ (u : View). u.parts) vs ≡ 0 → ((j : ℕ) (u : View) → get_elem? vs j ≡ some u → Idle u) → total f (all_lists vs) ≡ 0
spent_lists f [] none idle = refl
spent_lists f (x ∷ xs) none idle =
    let e = idle 0 x refl (omega arith) in
    let t = spent_lists f xs (omega arith) (λ j u at. idle (suc j) u at) in
    let a = total-append f x.lists (all_lists xs) in let q = ap (total f) e in omega arith

all_with_one : (f : List ℕ → ℕ) (vs : List View) (i : ℕ) (v : View) → get_elem? vs i ≡ some v → total (λ (u : View). u.parts) vs ≡ v.parts → ((j : ℕ) (u : View) → get_elem? vs j ≡ some u → Idle u) → total f (all_lists vs) ≡ total f v.lists
all_with_one f vs i v at whole idle =
    let none = total_set (λ (u : View). u.parts) vs i v spent at in
    let z = spent_lists f (set vs i spent) (omega arith) (each_set Idle vs i spent idle (λ _. refl)) in
    let t = lists_set f vs i v spent at in omega arith

-- what the closing seat knows
pub closes : (id : ℕ) (v : View) (words : List ℕ) (slots : List (Unit {0})) → v.parts ≡ 8 → total length v.lists < 2 ^ 64 → Final (Seen RuleHolds id v) words slots → (word : ℕ) × (words ≡ word ∷ []) × AllAscend v.lists × EachOnce v.lists word
closes id v words slots whole short f =
    let s = f.0 in
    let h = f.1.0 in
    let at = f.1.1 in
    let same = (λ (g : List ℕ → ℕ). all_with_one g s.views id v at (h.2 ∙ sym whole) h.3) in
    ⊎_elim
    (λ (e : AreExact h.0 s.views). (h.0, sym f.2 ∙ h.1, e.0 id v at, moved (all_lists s.views) v.lists h.0 (λ g _. sym (same g)) e.1))
    (λ (long : AreLong s.views). absurd (let m = same length in omega arith))
    h.4
