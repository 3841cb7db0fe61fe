-- Rows whose starts differ compare as their starts do, and as the numbers that the starts make.
use Rattle.std.proofs.Common.{◌≡◌, ◌<◌, ◌≤◌, ◌+◌, ◌*◌, ℕ, zero, suc, List, [], ◌∷◌, length, slice_index, refl, sym, ◌∙◌, ap, subst, arith}
use Rattle.std.specs.Ordering.{nat_cmp, ordering_then, ordering_reverse, MatchOrdering}
use Rattle.std.specs.Cmp.Lexicographic.{slice_cmp}
use Rattle.std.specs.Int.{from_be_bytes, w64}
use Rattle.std.specs.declared.cmp.Ordering.{Ordering}
use Rattle.std.specs.declared.cmp.Ordering.TheVariants.{Less, Equal, Greater}
use Rattle.std.specs.Cmp.{nat_cmp_is}
use Rattle.std.proofs.Math.Nat.{mul-le-mul_right}
use Rattle.std.proofs.lemmas.Cmp.{ranked, nat_cmp_total, lists_total}
use Rattle.row_text.specs.RowText.{row_cmp}
use Rattle.row_text.specs.Starts.{row_start, start_of}
use Rattle.lists.proofs.Orders.{rows_total}

-- so many bytes of a value, with zeros behind a shorter one
padded : ℕ → List ℕ → List ℕ
padded zero bytes = []
padded (suc n) [] = 0 ∷ padded n []
padded (suc n) (b ∷ bytes) = b ∷ padded n bytes

start-padded : (bytes : List ℕ) → start_of bytes ≡ padded 8 bytes
unfolding padded
start-padded [] = refl
start-padded (a ∷ []) = refl
start-padded (a ∷ b ∷ []) = refl
start-padded (a ∷ b ∷ c ∷ []) = refl
start-padded (a ∷ b ∷ c ∷ d ∷ []) = refl
start-padded (a ∷ b ∷ c ∷ d ∷ e ∷ []) = refl
start-padded (a ∷ b ∷ c ∷ d ∷ e ∷ f ∷ []) = refl
start-padded (a ∷ b ∷ c ∷ d ∷ e ∷ f ∷ g ∷ []) = refl
start-padded (a ∷ b ∷ c ∷ d ∷ e ∷ f ∷ g ∷ h ∷ rest) = refl

not_below_zero : (x : ℕ) → nat_cmp x 0 ≡ Less → ⊥
not_below_zero x h = let below = subst (λ (o : Ordering). MatchOrdering o (x < 0) (x ≡ 0) (0 < x)) h (ranked x 0 (nat_cmp x 0) refl) in omega (arith, below)

-- a comparison that goes on where the first members are equal
then_less : (o p q : Ordering) → ordering_then o p ≡ Less → (p ≡ Less → q ≡ Less) → ordering_then o q ≡ Less
then_less Less p q h more = refl
then_less Equal p q h more = more h
then_less Greater p q h more = absurd (cc)

padded_less : (n : ℕ) (xs ys : List ℕ) → slice_cmp nat_cmp (padded n xs) (padded n ys) ≡ Less → slice_cmp nat_cmp xs ys ≡ Less
unfolding padded
padded_less zero xs ys h = absurd (cc)
padded_less (suc n) [] [] h = padded_less n [] [] h
padded_less (suc n) [] (y ∷ ys) h = refl
padded_less (suc n) (x ∷ xs) [] h = absurd (by (nat_cmp x 0) refl h (padded_less n xs []))
  where
    none : (zs : List ℕ) → slice_cmp nat_cmp zs [] ≡ Less → ⊥
    none [] e = cc
    none (z ∷ zs) e = cc

    by : (o : Ordering) → nat_cmp x 0 ≡ o → ordering_then o (slice_cmp nat_cmp (padded n xs) (padded n [])) ≡ Less
        → (slice_cmp nat_cmp (padded n xs) (padded n []) ≡ Less → slice_cmp nat_cmp xs [] ≡ Less) → ⊥
    by Less e g more = not_below_zero x e
    by Equal e g more = none xs (more g)
    by Greater e g more = cc
padded_less (suc n) (x ∷ xs) (y ∷ ys) h = then_less (nat_cmp x y) (slice_cmp nat_cmp (padded n xs) (padded n ys)) (slice_cmp nat_cmp xs ys) h (padded_less n xs ys)

start_less : (xs ys : List ℕ) → slice_cmp nat_cmp (start_of xs) (start_of ys) ≡ Less → slice_cmp nat_cmp xs ys ≡ Less
start_less xs ys h = padded_less 8 xs ys
    (subst (λ (s : List ℕ). slice_cmp nat_cmp s (padded 8 ys) ≡ Less) (start-padded xs)
    (subst (λ (s : List ℕ). slice_cmp nat_cmp (start_of xs) s ≡ Less) (start-padded ys) h))

row_start-less : (a b : List (List ℕ)) → slice_cmp nat_cmp (row_start a) (row_start b) ≡ Less → row_cmp a b ≡ Less
row_start-less [] [] h = absurd (cc)
row_start-less [] (w ∷ ws) h = refl
row_start-less (v ∷ vs) [] h = absurd (by v (start_less v [] h))
  where
    by : (zs : List ℕ) → slice_cmp nat_cmp zs [] ≡ Less → ⊥
    by [] e = cc
    by (z ∷ zs) e = cc
row_start-less (v ∷ vs) (w ∷ ws) h = ap (λ (o : Ordering). ordering_then o (slice_cmp (slice_cmp nat_cmp) vs ws)) (start_less v w h)

row_start-greater : (a b : List (List ℕ)) → slice_cmp nat_cmp (row_start a) (row_start b) ≡ Greater → row_cmp a b ≡ Greater
row_start-greater a b h =
    let back : slice_cmp nat_cmp (row_start b) (row_start a) ≡ Less = (lists_total nat_cmp_total).antisymm (row_start b) (row_start a) ∙ ap ordering_reverse h in
    rows_total.antisymm a b ∙ ap ordering_reverse (row_start-less b a back)

-- an ordering of the starts that is not `Equal` is that of the rows
row_start-decides : (a b : List (List ℕ)) (o : Ordering) → o ≡ slice_cmp nat_cmp (row_start a) (row_start b) → (o ≡ Equal → ⊥) → o ≡ row_cmp a b
row_start-decides a b Less is other = sym (row_start-less a b (sym is))
row_start-decides a b Equal is other = absurd (other refl)
row_start-decides a b Greater is other = sym (row_start-greater a b (sym is))

-- each is a byte
abbrev AreBytes : List ℕ → Type 0
AreBytes xs = (place : ℕ) → slice_index xs place < 256

-- what one of the byte before these is worth
weight : List ℕ → ℕ
weight [] = 1
weight (b ∷ bytes) = 256 * weight bytes

-- the number that bytes make, of which the first counts most
number : List ℕ → ℕ
number [] = 0
number (b ∷ bytes) = b * weight bytes + number bytes

weight-same : (xs ys : List ℕ) → length xs ≡ length ys → weight xs ≡ weight ys
unfolding weight
weight-same [] [] same = refl
weight-same [] (y ∷ ys) same = absurd (omega arith)
weight-same (x ∷ xs) [] same = absurd (omega arith)
weight-same (x ∷ xs) (y ∷ ys) same = ap (λ w. 256 * w) (weight-same xs ys (omega arith))

number-below : (xs : List ℕ) → AreBytes xs → number xs < weight xs
unfolding number weight
number-below [] small = omega arith
number-below (x ∷ xs) small =
    let rest : number xs < weight xs = number-below xs (λ place. small (suc place)) in
    let most : (x + 1) * weight xs ≤ 256 * weight xs = mul-le-mul_right (weight xs) (omega (arith, small 0)) in
    omega (arith, rest, most)

abbrev Ranks : Ordering → ℕ → ℕ → Type 0
Ranks o m n = MatchOrdering o (m < n) (m ≡ n) (n < m)

after_equal : (o : Ordering) (k m n : ℕ) → Ranks o m n → Ranks o (k + m) (k + n)
after_equal Less k m n h = omega (arith, h)
after_equal Equal k m n h = ap (λ z. k + z) h
after_equal Greater k m n h = omega (arith, h)

-- one that counts more decides
higher : (x y w m n : ℕ) → x < y → m < w → x * w + m < y * w + n
higher x y w m n less small =
    let most : (x + 1) * w ≤ y * w = mul-le-mul_right w (omega (arith, less)) in
    omega (arith, most, small)

-- numbers rank as the first bytes do, and where these are equal as the rest does
number-ranks : (xs ys : List ℕ) → length xs ≡ length ys → AreBytes xs → AreBytes ys → Ranks (slice_cmp nat_cmp xs ys) (number xs) (number ys)
unfolding number
number-ranks [] [] same small low = refl
number-ranks [] (y ∷ ys) same small low = absurd (omega arith)
number-ranks (x ∷ xs) [] same small low = absurd (omega arith)
number-ranks (x ∷ xs) (y ∷ ys) same small low =
    subst (λ (w : ℕ). Ranks (ordering_then (nat_cmp x y) (slice_cmp nat_cmp xs ys)) (x * weight xs + number xs) (y * w + number ys)) (weight-same xs ys (omega arith))
    (by (number-ranks xs ys (omega arith) (λ place. small (suc place)) (λ place. low (suc place))) (nat_cmp x y) (ranked x y (nat_cmp x y) refl))
  where
    by : Ranks (slice_cmp nat_cmp xs ys) (number xs) (number ys) → (o : Ordering) → Ranks o x y → Ranks (ordering_then o (slice_cmp nat_cmp xs ys)) (x * weight xs + number xs) (y * weight xs + number ys)
    by rest Less h = higher x y (weight xs) (number xs) (number ys) h (number-below xs (λ place. small (suc place)))
    by rest Equal h = subst (λ (z : ℕ). Ranks (slice_cmp nat_cmp xs ys) (x * weight xs + number xs) (z * weight xs + number ys)) h
        (after_equal (slice_cmp nat_cmp xs ys) (x * weight xs) (number xs) (number ys) rest)
    by rest Greater h = higher y x (weight xs) (number ys) (number xs) h
        (subst (λ (w : ℕ). number ys < w) (sym (weight-same xs ys (omega arith))) (number-below ys (λ place. low (suc place))))

start-number : (row : List (List ℕ)) → from_be_bytes w64 (row_start row) ≡ number (row_start row)
unfolding number weight
start-number row = omega arith

-- an ordering of the numbers that is not `Equal` is that of the rows
pub number-decides : (a b : List (List ℕ)) (o : Ordering) → AreBytes (row_start a) → AreBytes (row_start b)
    → o ≡ nat_cmp (from_be_bytes w64 (row_start a)) (from_be_bytes w64 (row_start b)) → (o ≡ Equal → ⊥) → o ≡ row_cmp a b
number-decides a b o small low is other =
    let same : slice_cmp nat_cmp (row_start a) (row_start b) ≡ nat_cmp (number (row_start a)) (number (row_start b)) =
    nat_cmp_is (number (row_start a)) (number (row_start b)) (slice_cmp nat_cmp (row_start a) (row_start b)) (number-ranks (row_start a) (row_start b) refl small low) in
    row_start-decides a b o (rw (start-number a, start-number b, ← same) at is) other
