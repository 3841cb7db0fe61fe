-- For callers whose workers keep what they were asked: all workers together were asked each item once.
use Rattle.std.proofs.Common.{◌≡◌, ◌≢◌, ℕ, zero, suc, ◌+◌, ◌<◌, ◌≤◌, List, [], ◌∷◌, ◌++◌, length, refl, sym, ap, ◌∙◌, subst, arith, Some}
use Rattle.std.specs.Prelude.{slice_get}
use Rattle.std.specs.List.{range_with_len}
use native.Mathlib.Decide.{dec_le, ℕ_discrete}
use mathlib.Core.Logic.{dite}
use Rattle.lane_pool.specs.Numbers.{total, times, hit, EachOnce}
use Rattle.lane_pool.specs.Work.{WorkedBy, AllWorked, FansOut}
use Rattle.lane_pool.proofs.Totals.{total-append, hit-same, hit-other}

-- a list without one of its numbers weighs less by that number
removed : (g : ℕ → ℕ) (k : ℕ) (xs : List ℕ) → 0 < times k xs → (ys : List ℕ) × ((j : ℕ) → times j xs ≡ times j ys + hit j k) × (total g xs ≡ total g ys + g k)
removed g k [] h = absurd (omega arith)
removed g k (x ∷ xs) h = dite (ℕ_discrete x k)
    (λ (same : x ≡ k). (xs, (λ j. let e : hit j x ≡ hit j k = ap (hit j) same in omega arith), (let e = ap g same in omega arith)))
    (λ (apart : x ≢ k).
    let z = hit-other k x apart in
    let r = removed g k xs (omega arith) in (x ∷ r.0, (λ j. let q = r.1 j in omega arith), (let q = r.2 in omega arith)))

-- lists in which each number stands equally often weigh the same
pub same_weight : (g : ℕ → ℕ) (xs ys : List ℕ) → ((k : ℕ) → times k xs ≡ times k ys) → total g xs ≡ total g ys
same_weight g [] [] h = refl
same_weight g [] (y ∷ ys) h = absurd (let a = h y in let o = hit-same y in omega arith)
same_weight g (x ∷ xs) ys h =
    let a = h x in let o = hit-same x in
    let r = removed g x ys (omega arith) in
    let t = same_weight g xs r.0 (λ k. let b = h k in let q = r.1 k in omega arith) in
    let q = r.2 in omega arith

joined_lists : List (List ℕ) → List ℕ
joined_lists [] = []
joined_lists (l ∷ ls) = l ++ joined_lists ls

total-joined : (g : ℕ → ℕ) (ls : List (List ℕ)) → total g (joined_lists ls) ≡ total (total g) ls
unfolding joined_lists
total-joined g [] = refl
total-joined g (l ∷ ls) = let t = total-joined g ls in let a = total-append g l (joined_lists ls) in omega arith

times-range_before : (k a n : ℕ) → k < a → times k (range_with_len a n) ≡ 0
times-range_before k a zero h = refl
times-range_before k a (suc n) h = let t = times-range_before k (a + 1) n (omega arith) in let z = hit-other k a (omega arith) in omega arith

times-range_after : (k a n : ℕ) → a + n ≤ k → times k (range_with_len a n) ≡ 0
times-range_after k a zero h = refl
times-range_after k a (suc n) h = let t = times-range_after k (a + 1) n (omega arith) in let z = hit-other k a (omega arith) in omega arith

times-range : (k a n : ℕ) → a ≤ k → k < a + n → times k (range_with_len a n) ≡ 1
times-range k a zero low high = absurd (omega arith)
times-range k a (suc n) low high = dite (ℕ_discrete a k)
    (λ (e : a ≡ k). let t = times-range_before k (a + 1) n (omega arith) in let o = subst (λ m. hit k m ≡ 1) (sym e) (hit-same k) in omega arith)
    (λ (ne : a ≢ k). let t = times-range k (a + 1) n (omega arith) (omega arith) in let z = hit-other k a ne in omega arith)

-- however the numbers are weighed, the lists weigh what the numbers below n weigh
pub each_weight : (g : ℕ → ℕ) (lists : List (List ℕ)) (n : ℕ) → EachOnce lists n → total (total g) lists ≡ total g (range_with_len 0 n)
each_weight g lists n once =
    sym (total-joined g lists) ∙ same_weight g (joined_lists lists) (range_with_len 0 n)
    (λ k. let j = total-joined (hit k) lists in elim (dec_le n k) [
      | yes far ↦ let z = once.2 k far in let t = times-range_after k 0 n (omega arith) in omega arith
      | no near ↦ let o = once.1 k (omega arith) in let t = times-range k 0 n (omega arith) (omega arith) in omega arith
    ])

-- the charges of the items with their answers, added up
abbrev pub charges : {I A : Type 0} → (I → A → ℕ) → List I → List A → ℕ
charges c [] answers = 0
charges c (x ∷ xs) [] = 0
charges c (x ∷ xs) (a ∷ answers) = c x a + charges c xs answers

module _ {W I A : Type 0} (did : W → I → A → W → Type 0) (m : W → ℕ) (c : I → A → ℕ) (grows : (v : W) (x : I) (a : A) (w : W) → did v x a w → m w ≡ m v + c x a) where
  -- the charge at a number
  abbrev at : List I → List A → ℕ → ℕ
  at [] answers k = 0
  at (x ∷ xs) [] k = 0
  at (x ∷ xs) (a ∷ answers) zero = c x a
  at (x ∷ xs) (a ∷ answers) (suc k) = at xs answers k

  at_is : (xs : List I) (answers : List A) (k : ℕ) (x : I) (a : A) → slice_get xs k ≡ Some x → slice_get answers k ≡ Some a → at xs answers k ≡ c x a
  at_is [] answers k x a e f = absurd (cc)
  at_is (y ∷ ys) [] k x a e f = absurd (cc)
  at_is (y ∷ ys) (b ∷ bs) zero x a e f = let s : y ≡ x = cc in let t : b ≡ a = cc in λ i. c (s i) (t i)
  at_is (y ∷ ys) (b ∷ bs) (suc k) x a e f = at_is ys bs k x a e f

  all_at : (xs : List I) (answers : List A) (f : ℕ → ℕ) (a : ℕ) → length answers ≡ length xs → ((k : ℕ) → f (a + k) ≡ at xs answers k) → total f (range_with_len a (length xs)) ≡ charges c xs answers
  all_at [] answers f a len same = refl
  all_at (x ∷ xs) [] f a len same = absurd (omega arith)
  all_at (x ∷ xs) (b ∷ bs) f a len same =
      let first : f a ≡ c x b = subst (λ m. f m ≡ c x b) (omega arith) (same 0) in
      let t = all_at xs bs f (a + 1) (omega arith) (λ k. let e : a + suc k ≡ (a + 1) + k = omega arith in subst (λ m. f m ≡ at xs bs k) e (same (suc k))) in
      omega arith

  one_charged : (items : List I) (answers : List A) (ks : List ℕ) (w u : W) → WorkedBy did items answers ks w u → m u ≡ m w + total (at items answers) ks
  one_charged items answers [] w u s = let e = ap m s in omega arith
  one_charged items answers (k ∷ ks) w u s =
      let t = one_charged items answers ks s.2 u s.6 in
      let e = grows w s.0 s.1 s.2 s.5 in
      let i = at_is items answers k s.0 s.1 s.3 s.4 in omega arith

  all_charged : (items : List I) (answers : List A) (lists : List (List ℕ)) (ws us : List W) → AllWorked did items answers lists ws us → total m us ≡ total m ws + total (total (at items answers)) lists
  all_charged items answers [] [] [] s = refl
  all_charged items answers [] [] (u ∷ us) s = absurd s
  all_charged items answers [] (w ∷ ws) us s = absurd s
  all_charged items answers (l ∷ ls) [] us s = absurd s
  all_charged items answers (l ∷ ls) (w ∷ ws) [] s = absurd s
  all_charged items answers (l ∷ ls) (w ∷ ws) (u ∷ us) s = let o = one_charged items answers l w u s.0 in let t = all_charged items answers ls ws us s.1 in omega arith

  -- a number that each step raises by the charge of its item and answer has risen, over all workers, by the charges of all items with their answers
  pub charged_once : (items : List I) (answers : List A) (ws us : List W) → FansOut did items answers ws us → total m us ≡ total m ws + charges c items answers
  charged_once items answers ws us f =
      all_charged items answers f.lists ws us f.worked
      ∙ ap (λ n. total m ws + n) (each_weight (at items answers) f.lists (length items) f.once ∙ all_at items answers (at items answers) 0 f.len (λ k. ap (at items answers) (omega arith)))

-- the same for workers that keep what they were asked: took x a is what a step on x with the answer a adds, as nothing where it was skipped
pub asked_once : {W I A : Type 0} (did : W → I → A → W → Type 0) (asked : W → List I) (took : I → A → List I) → ((v : W) (x : I) (a : A) (w : W) → did v x a w → asked w ≡ asked v ++ took x a) → (h : I → ℕ)
    → (items : List I) (answers : List A) (ws us : List W) → FansOut did items answers ws us → total (λ u. total h (asked u)) us ≡ total (λ w. total h (asked w)) ws + charges (λ x a. total h (took x a)) items answers
asked_once did asked took grows h =
    charged_once did (λ w. total h (asked w)) (λ x a. total h (took x a)) (λ v x a w d. ap (total h) (grows v x a w d) ∙ total-append h (asked v) (took x a))
