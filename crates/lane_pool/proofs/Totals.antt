-- Sums over lists, and a list with one element replaced.
use Rattle.std.proofs.Common.{◌≡◌, ◌≢◌, ℕ, zero, suc, ◌+◌, ◌<◌, List, [], ◌∷◌, ◌++◌, length, get_or, set, cond, refl, ap, arith, eq-eqb, ne_eqb}
use Rattle.lane_pool.specs.Numbers.{total, times, hit}

module _ {X : Type 0} (f : X → ℕ) where
  pub total-set : (xs : List X) (i : ℕ) (d y : X) → i < length xs → total f (set xs i y) + f (get_or xs i d) ≡ total f xs + f y
  total-set [] i d y h = absurd (omega arith)
  total-set (x ∷ xs) zero d y h = omega arith
  total-set (x ∷ xs) (suc i) d y h = let t = total-set xs i d y (omega arith) in omega arith

  pub total-append : (xs ys : List X) → total f (xs ++ ys) ≡ total f xs + total f ys
  total-append [] ys = omega arith
  total-append (x ∷ xs) ys = let t = total-append xs ys in omega arith

pub hit-same : (k : ℕ) → hit k k ≡ 1
hit-same k = ap (λ b. cond {A = ℕ} b 1 0) (eq-eqb k k refl)

pub hit-other : (k n : ℕ) → n ≢ k → hit k n ≡ 0
hit-other k n h = ap (λ b. cond {A = ℕ} b 1 0) (ne_eqb n k h)

pub times-last : (k n : ℕ) (xs : List ℕ) → times k (xs ++ n ∷ []) ≡ times k xs + hit k n
times-last k n xs = let t = total-append (hit k) xs (n ∷ []) in omega arith

pub times-same : (k : ℕ) (xs : List ℕ) → times k (xs ++ k ∷ []) ≡ times k xs + 1
times-same k xs = let t = times-last k k xs in let h = hit-same k in omega arith

pub times-other : (k n : ℕ) (xs : List ℕ) → n ≢ k → times k (xs ++ n ∷ []) ≡ times k xs
times-other k n xs h = let t = times-last k n xs in let z = hit-other k n h in omega arith
