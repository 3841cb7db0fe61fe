-- What stands at a place of a list, and the members before it. Crates above cite these lemmas.
use Rattle.std.proofs.Common.{◌≡◌, ◌∙◌, ◌⊎◌, inl, inr, ⊎_elim, ℕ, zero, suc, ◌+◌, ◌-◌, ◌<◌, ◌≤◌, List, [], ◌∷◌, ◌++◌, length, take, drop, get_or, Some, None, refl, sym, ap, subst, arith}
use Rattle.std.specs.Prelude.{Contains, slice_get, slice_set, slice_index_or}
use Rattle.std.specs.List.{range_with_len}
use Rattle.std.proofs.Math.Seq.{take-length}
use Rattle.std.proofs.lemmas.List.{take_more}
use Rattle.std.proofs.lemmas.Option.{slice_get_within, slice_get_read, slice_get-get_or, get_or_from_slice_get}
use Rattle.lists.proofs.Members.{contains_here, contains_there}

pub got_contained : {X : Type 0} (xs : List X) (x : X) (there : Contains xs x) → slice_get xs there.0 ≡ Some x
got_contained xs x (k, lt, is) = slice_get_read xs (length xs) k x refl lt (sym is)

pub got_member : {X : Type 0} (xs : List X) (x : X) → Contains xs x → (k : ℕ) × (slice_get xs k ≡ Some x)
got_member xs x there = (there.0, got_contained xs x there)

pub got_none : {X : Type 0} (xs : List X) (k : ℕ) → slice_get xs k ≡ None → length xs ≤ k
got_none [] k e = omega arith
got_none (y ∷ xs) zero e = absurd (cc)
got_none (y ∷ xs) (suc k) e = omega (arith, got_none xs k e)

pub got_indexed : {X : Type 0} (xs : List X) (k : ℕ) (x : X) → k < length xs → x ≡ slice_index_or xs k x → slice_get xs k ≡ Some x
got_indexed xs k x low is = slice_get-get_or xs k x low ∙ ap Some (sym is)

pub got_seam : {X : Type 0} (xs : List X) (y : X) (ys : List X) → slice_get (xs ++ y ∷ ys) (length xs) ≡ Some y
got_seam [] y ys = refl
got_seam (x ∷ xs) y ys = got_seam xs y ys

pub got_after : {X : Type 0} (xs ys : List X) (k : ℕ) → slice_get (xs ++ ys) (length xs + k) ≡ slice_get ys k
got_after [] ys k = ap (slice_get ys) (omega arith)
got_after (x ∷ xs) ys k = let e : length (x ∷ xs) + k ≡ suc (length xs + k) = omega arith in rw e (got_after xs ys k)

-- one member more
pub take_got : {X : Type 0} (xs : List X) (k : ℕ) (x : X) → slice_get xs k ≡ Some x → take (k + 1) xs ≡ take k xs ++ x ∷ []
take_got xs k x at = let low = slice_get_within xs k x at in take_more xs k x low ∙ ap (λ y. take k xs ++ y ∷ []) (get_or_from_slice_get xs k x x at)

pub take_indexed : {X : Type 0} (xs : List X) (k : ℕ) (x : X) → k < length xs → x ≡ slice_index_or xs k x → take (k + 1) xs ≡ take k xs ++ x ∷ []
take_indexed xs k x low is = take_more xs k x low ∙ ap (λ z. take k xs ++ z ∷ []) (sym is)

pub range_push : (from count : ℕ) → range_with_len from (suc count) ≡ range_with_len from count ++ (from + count) ∷ []
range_push from zero = let e : from ≡ from + 0 = omega arith in ap (λ n. n ∷ []) e
range_push from (suc count) =
    let rest : range_with_len (from + 1) (suc count) ≡ range_with_len (from + 1) count ++ (from + 1 + count) ∷ [] = range_push (from + 1) count in
    let e : from + 1 + count ≡ from + suc count = omega arith in
    ap (λ ns. from ∷ ns) (rest ∙ ap (λ n. range_with_len (from + 1) count ++ n ∷ []) e)

-- a place that is written twice
pub set_twice : {X : Type 0} (xs : List X) (k : ℕ) (x y : X) → slice_set (slice_set xs k x) k y ≡ slice_set xs k y
set_twice [] k x y = refl
set_twice (z ∷ xs) zero x y = refl
set_twice (z ∷ xs) (suc k) x y = ap (λ (l : List _). z ∷ l) (set_twice xs k x y)

-- the first member, if there is one
pub split_first : {X : Type 0} (xs : List X) (x : X) → 0 < length xs → x ≡ get_or xs 0 x → xs ≡ x ∷ take (length xs - 1) (drop 1 xs)
split_first [] x some is = absurd (omega arith)
split_first (y ∷ ys) x some is = let k : length (y ∷ ys) - 1 ≡ length ys = omega arith in cc (is, ap (λ n. take n ys) k ∙ take-length ys)

pub none_left : {X : Type 0} (xs : List X) → length xs < 1 → xs ≡ []
none_left [] short = refl
none_left (x ∷ xs) short = absurd (omega arith)

-- numbers in a row
pub range_has : (from count n : ℕ) → from ≤ n → n < from + count → Contains (range_with_len from count) n
range_has from zero n low high = absurd (omega arith)
range_has from (suc count) n low high =
    ⊎_elim (λ same. subst (Contains (range_with_len from (suc count))) same (contains_here from (range_with_len (from + 1) count)))
    (λ above. contains_there from (range_with_len (from + 1) count) n (range_has (from + 1) count n above (omega arith)))
    (here_or_more from n low)
  where
    here_or_more : (a b : ℕ) → a ≤ b → (a ≡ b) ⊎ (a + 1 ≤ b)
    here_or_more zero zero l = inl refl
    here_or_more zero (suc b) l = inr (omega arith)
    here_or_more (suc a) zero l = absurd (omega arith)
    here_or_more (suc a) (suc b) l = ⊎_elim (λ e. inl (ap suc e)) (λ h. inr (omega arith)) (here_or_more a b (omega arith))
