-- Lists of numbers, one for each lane: those of one list and behind them those of the next have each number once, in order.
use Rattle.std.proofs.Common.{◌≡◌, ◌≢◌, ◌+◌, ◌-◌, ◌<◌, ◌≤◌, ℕ, zero, suc, List, [], ◌∷◌, ◌++◌, length, length-append, map, refl, sym, ◌∙◌, ap, subst, arith}
use Rattle.std.specs.List.{AllByRecursion}
use Rattle.std.specs.List.Sorted.{IsStrictlySortedBy}
use Rattle.std.specs.Ordering.{nat_cmp, MatchOrdering}
use Rattle.std.specs.Cmp.{nat_cmp_is, ranks}
use Rattle.std.specs.declared.cmp.Ordering.TheVariants.{Less}
use Rattle.std.proofs.lemmas.List.{length-map}
use Rattle.std.proofs.lemmas.Map.Keys.{IsStrictlyIncreasing-from_sorted, sorted_from_strictly_increasing}
use native.Mathlib.Decide.{dec_le, ℕ_discrete}
use mathlib.Core.Logic.{dite}
use Rattle.lane_pool.specs.Numbers.{total, times, hit, EachOnce, AllAscend}
use Rattle.lane_pool.proofs.Totals.{total-append, hit-same, hit-other}

-- ---- numbers that follow others

-- the numbers behind the first n
abbrev pub moved : ℕ → List ℕ → List ℕ
moved n ks = map (λ k. n + k) ks

-- lane by lane, the numbers of one list and behind them those of the next, which begin at n
abbrev pub behind : ℕ → List (List ℕ) → List (List ℕ) → List (List ℕ)
behind n [] ms = []
behind n (l ∷ ls) [] = []
behind n (l ∷ ls) (m ∷ ms) = (l ++ moved n m) ∷ behind n ls ms

pub hit_moved : (n k j : ℕ) → hit (n + k) (n + j) ≡ hit k j
hit_moved n k j = dite (ℕ_discrete j k)
    (λ (same : j ≡ k). ap (λ m. hit (n + k) (n + m)) same ∙ hit-same (n + k) ∙ sym (hit-same k) ∙ ap (hit k) (sym same))
    (λ (apart : j ≢ k). hit-other (n + k) (n + j) (λ e. apart (omega (arith, e))) ∙ sym (hit-other k j apart))

times_moved : (n k : ℕ) (ks : List ℕ) → times (n + k) (moved n ks) ≡ times k ks
times_moved n k [] = refl
times_moved n k (j ∷ ks) = let a = hit_moved n k j in let b = times_moved n k ks in omega (arith, a, b)

pub times_before : (n k : ℕ) → k < n → (ks : List ℕ) → times k (moved n ks) ≡ 0
times_before n k less [] = refl
times_before n k less (j ∷ ks) =
    let a = hit-other k (n + j) (λ e. absurd (omega (arith, e, less))) in
    let b = times_before n k less ks in omega (arith, a, b)

total_behind : (f : List ℕ → ℕ) → ((xs ys : List ℕ) → f (xs ++ ys) ≡ f xs + f ys) → (n : ℕ) (ls ms : List (List ℕ)) → length ls ≡ length ms
    → total f (behind n ls ms) ≡ total f ls + total (λ m. f (moved n m)) ms
total_behind f adds n [] [] same = refl
total_behind f adds n [] (m ∷ ms) same = absurd (omega arith)
total_behind f adds n (l ∷ ls) [] same = absurd (omega arith)
total_behind f adds n (l ∷ ls) (m ∷ ms) same =
    let a = adds l (moved n m) in
    let b = total_behind f adds n ls ms (omega arith) in
    omega (arith, a, b)

total_same : (f g : List ℕ → ℕ) → ((l : List ℕ) → f l ≡ g l) → (ls : List (List ℕ)) → total f ls ≡ total g ls
total_same f g same [] = refl
total_same f g same (l ∷ ls) = let a = same l in let b = total_same f g same ls in omega (arith, a, b)

total_none : (f : List ℕ → ℕ) → ((l : List ℕ) → f l ≡ 0) → (ls : List (List ℕ)) → total f ls ≡ 0
total_none f none [] = refl
total_none f none (l ∷ ls) = let a = none l in let b = total_none f none ls in omega (arith, a, b)

-- ---- numbers below n

abbrev pub AllBelow : ℕ → List (List ℕ) → Type 0
AllBelow n lists = AllByRecursion (λ l. AllByRecursion (λ k. k < n) l) lists

one_below : (n : ℕ) (l : List ℕ) → ((k : ℕ) → n ≤ k → times k l ≡ 0) → AllByRecursion (λ k. k < n) l
one_below n [] none = tt
one_below n (x ∷ xs) none = (
  elim (dec_le n x) [
    | yes far ↦ absurd (let z = none x far in let o = hit-same x in omega (arith, z, o))
    | no near ↦ omega arith
  ],
  one_below n xs (λ k far. let z = none k far in omega (arith, z)),
)

pub all_below : (n : ℕ) (lists : List (List ℕ)) → ((k : ℕ) → n ≤ k → total (times k) lists ≡ 0) → AllBelow n lists
all_below n [] none = tt
all_below n (l ∷ ls) none =
    (one_below n l (λ k far. let z = none k far in omega (arith, z)), all_below n ls (λ k far. let z = none k far in omega (arith, z)))

less_is : (x y : ℕ) → x < y → nat_cmp x y ≡ Less
less_is x y less = sym (nat_cmp_is x y Less less)

less_of : (x y : ℕ) → nat_cmp x y ≡ Less → x < y
less_of x y is = subst (λ r. MatchOrdering r (x < y) (x ≡ y) (y < x)) is (ranks x y)

-- ---- ascending numbers

past : (n x : ℕ) → x < n → (ms : List ℕ) → AllByRecursion (λ y. nat_cmp x y ≡ Less) (moved n ms)
past n x less [] = tt
past n x less (m ∷ ms) = (less_is x (n + m) (omega arith), past n x less ms)

and_past : (n x : ℕ) → x < n → (xs ms : List ℕ) → AllByRecursion (λ y. nat_cmp x y ≡ Less) xs → AllByRecursion (λ y. nat_cmp x y ≡ Less) (xs ++ moved n ms)
and_past n x less [] ms all = past n x less ms
and_past n x less (y ∷ xs) ms all = (all.0, and_past n x less xs ms all.1)

moved_sorted : (n : ℕ) (ms : List ℕ) → IsStrictlySortedBy nat_cmp ms → IsStrictlySortedBy nat_cmp (moved n ms)
unfolding IsStrictlySortedBy
moved_sorted n [] up = tt
moved_sorted n (m ∷ ms) up = (first ms up.0, moved_sorted n ms up.1)
  where
    first : (xs : List ℕ) → AllByRecursion (λ y. nat_cmp m y ≡ Less) xs → AllByRecursion (λ y. nat_cmp (n + m) y ≡ Less) (moved n xs)
    first [] all = tt
    first (x ∷ xs) all = (less_is (n + m) (n + x) (let l = less_of m x all.0 in omega (arith, l)), first xs all.1)

behind_sorted : (n : ℕ) (ls : List ℕ) → AllByRecursion (λ k. k < n) ls → (ms : List ℕ) → IsStrictlySortedBy nat_cmp ls → IsStrictlySortedBy nat_cmp ms
    → IsStrictlySortedBy nat_cmp (ls ++ moved n ms)
unfolding IsStrictlySortedBy
behind_sorted n [] low ms up rest = moved_sorted n ms rest
behind_sorted n (l ∷ ls) low ms up rest = (and_past n l low.0 ls ms up.0, behind_sorted n ls low.1 ms up.1 rest)

pub behind_ascends : (n : ℕ) (ls ms : List (List ℕ)) → AllBelow n ls → AllAscend ls → AllAscend ms → AllAscend (behind n ls ms)
behind_ascends n [] ms low up rest = tt
behind_ascends n (l ∷ ls) [] low up rest = tt
behind_ascends n (l ∷ ls) (m ∷ ms) low up rest = (
  IsStrictlyIncreasing-from_sorted (l ++ moved n m)
      (behind_sorted n l low.0 m (sorted_from_strictly_increasing l up.0) (sorted_from_strictly_increasing m rest.0)),
  behind_ascends n ls ms low.1 up.1 rest.1,
)

-- the lists together have each number once
pub behind_once : (a b : ℕ) (ls ms : List (List ℕ)) → length ls ≡ length ms → EachOnce ls a → EachOnce ms b → EachOnce (behind a ls ms) (a + b)
behind_once a b ls ms same first second = (whole, each, none)
  where
    whole : total length (behind a ls ms) ≡ a + b
    whole =
        let t = total_behind length (λ xs ys. length-append xs ys) a ls ms same in
        let s = total_same (λ m. length (moved a m)) length (λ m. length-map m (λ k. a + k)) ms in
        let x = first.0 in let y = second.0 in omega (arith, t, s, x, y)

    split : (k : ℕ) → total (times k) (behind a ls ms) ≡ total (times k) ls + total (λ m. times k (moved a m)) ms
    split k = total_behind (times k) (λ xs ys. total-append (hit k) xs ys) a ls ms same

    beyond : (k : ℕ) → total (λ m. times (a + k) (moved a m)) ms ≡ total (times k) ms
    beyond k = total_same (λ m. times (a + k) (moved a m)) (times k) (λ m. times_moved a k m) ms

    each : (k : ℕ) → k < a + b → total (times k) (behind a ls ms) ≡ 1
    each k less = elim (dec_le a k) [
      | yes far ↦
          let at : a + (k - a) ≡ k = omega arith in
          let t = split k in
          let z = first.2 k far in
          let y = subst (λ n. total (λ m. times n (moved a m)) ms ≡ total (times (k - a)) ms) at (beyond (k - a)) in
          let o = second.1 (k - a) (omega arith) in
          omega (arith, t, z, y, o)
      | no near ↦
          let t = split k in
          let o = first.1 k (omega arith) in
          let z = total_none (λ m. times k (moved a m)) (λ m. times_before a k (omega arith) m) ms in
          omega (arith, t, o, z)
    ]

    none : (k : ℕ) → a + b ≤ k → total (times k) (behind a ls ms) ≡ 0
    none k far =
        let at : a + (k - a) ≡ k = omega arith in
        let t = split k in
        let z = first.2 k (omega arith) in
        let y = subst (λ n. total (λ m. times n (moved a m)) ms ≡ total (times (k - a)) ms) at (beyond (k - a)) in
        let o = second.2 (k - a) (omega arith) in
        omega (arith, t, z, y, o)

-- ---- the first numbers, in one list

abbrev pub first_numbers : ℕ → List ℕ
first_numbers zero = []
first_numbers (suc n) = 0 ∷ moved 1 (first_numbers n)

zero_once : EachOnce ((0 ∷ []) ∷ []) 1
zero_once = (
  refl,
  (λ k less. let same : 0 ≡ k = omega arith in let h = ap (λ j. hit j 0) same in let o = hit-same 0 in omega (arith, h, o)),
  (λ k far. let z = hit-other k 0 (λ e. absurd (omega (arith, e, far))) in omega (arith, z)),
)

pub numbers_once : (n : ℕ) → EachOnce (first_numbers n ∷ []) n
numbers_once zero = (refl, (λ k less. absurd (omega arith)), (λ k far. refl))
numbers_once (suc n) =
    let more : 1 + n ≡ suc n = omega arith in
    subst (λ m. EachOnce (first_numbers (suc n) ∷ []) m) more (behind_once 1 n ((0 ∷ []) ∷ []) (first_numbers n ∷ []) refl zero_once (numbers_once n))

pub numbers_ascend : (n : ℕ) → AllAscend (first_numbers n ∷ [])
numbers_ascend zero = ((λ k less. absurd (omega arith)), tt)
numbers_ascend (suc n) =
    let low : AllBelow 1 ((0 ∷ []) ∷ []) = ((omega arith, tt), tt) in
    behind_ascends 1 ((0 ∷ []) ∷ []) (first_numbers n ∷ []) low ((λ k less. absurd (omega arith)), tt) (numbers_ascend n)
