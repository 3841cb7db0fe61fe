-- One worker works the items in their order.
use Rattle.std.proofs.Common.{◌≡◌, ℕ, zero, suc, ◌+◌, ◌<◌, ◌≤◌, List, [], ◌∷◌, length, get_or, refl, subst, arith, add-one}
use Rattle.std.specs.List.Sorted.{IsStrictlyIncreasing}
use Rattle.std.specs.List.{range_with_len}
use native.Mathlib.Decide.{dec_le}
use Rattle.lane_pool.specs.Numbers.{EachOnce, AllAscend}
use Rattle.lane_pool.specs.Work.{WorkedBy, AllWorked, FansOut}
use Rattle.lane_pool.proofs.Moves.{times_at}

pub tail_up : (x : ℕ) (xs : List ℕ) → IsStrictlyIncreasing (x ∷ xs) → IsStrictlyIncreasing xs
tail_up x xs up k h = let e : suc k + 1 ≡ suc (k + 1) = omega arith in subst (λ m. get_or xs k 0 < get_or (x ∷ xs) m 0) e (up (suc k) (omega arith))

-- each of the ascending numbers is at least as far from the first as its place
far : (x : ℕ) (xs : List ℕ) → IsStrictlyIncreasing (x ∷ xs) → (k : ℕ) → k < length (x ∷ xs) → x + k ≤ get_or (x ∷ xs) k 0
far x xs up zero h = omega arith
far x xs up (suc k) h = let t = far x xs up k (omega arith) in let u = subst (λ m. get_or (x ∷ xs) k 0 < get_or (x ∷ xs) m 0) (add-one k) (up k (omega arith)) in omega arith

-- ascending numbers from a on, below a + n and n of them, are just these
all_of : (l : List ℕ) (a n : ℕ) → length l ≡ n → IsStrictlyIncreasing l → ((k : ℕ) → k < length l → a ≤ get_or l k 0) → ((k : ℕ) → k < length l → get_or l k 0 < a + n) → l ≡ range_with_len a n
all_of [] a zero len up low high = refl
all_of [] a (suc n) len up low high = absurd (omega arith)
all_of (x ∷ xs) a zero len up low high = absurd (omega arith)
all_of (x ∷ xs) a (suc n) len up low high =
    let first : x ≡ a =
    let f = far x xs up n (omega arith) in
    let h = high n (omega arith) in
    let l = low 0 (omega arith) in omega arith in
    let rest = all_of xs (a + 1) n (omega arith) (tail_up x xs up)
    (λ k h. let f = far x xs up (suc k) (omega arith) in omega arith)
    (λ k h. let b = high (suc k) (omega arith) in omega arith) in
    λ i. first i ∷ rest i

small : (l : List ℕ) (n : ℕ) → EachOnce (l ∷ []) n → (k : ℕ) → k < length l → get_or l k 0 < n
small l n once k h = elim (dec_le n (get_or l k 0)) [
  | yes out ↦ absurd (let z = once.2 (get_or l k 0) out in let t = times_at l k h in omega arith)
  | no in' ↦ omega arith
]

pub one_list : (l : List ℕ) (n : ℕ) → IsStrictlyIncreasing l → EachOnce (l ∷ []) n → l ≡ range_with_len 0 n
one_list l n up once = all_of l 0 n (let e = once.0 in omega arith) up (λ k h. omega arith) (λ k h. let s = small l n once k h in omega arith)

-- with one worker
pub in_order : {W I A : Type 0} (did : W → I → A → W → Type 0) (items : List I) (answers : List A) (w u : W) → FansOut did items answers (w ∷ []) (u ∷ []) → WorkedBy did items answers (range_with_len 0 (length items)) w u
in_order did items answers w u f = by_lists f.lists f.ascend f.once f.worked
  where
    by_lists : (lists : List (List ℕ)) → AllAscend lists → EachOnce lists (length items) → AllWorked did items answers lists (w ∷ []) (u ∷ []) → WorkedBy did items answers (range_with_len 0 (length items)) w u
    by_lists [] up once h = absurd h
    by_lists (l ∷ []) up once h = subst (λ ks. WorkedBy did items answers ks w u) (one_list l (length items) up.0 once) h.0
    by_lists (l ∷ m ∷ ls) up once h = absurd h.1
