-- Which rows of a formula have values at positions.
use Rattle.std.proofs.Common.{◌≡◌, ◌≢◌, ◌&&◌, ◌+◌, ◌%◌, ◌<◌, ◌≤◌, inl, inr, ℕ, zero, suc, Bool, true, false, List, [], ◌∷◌, length, map, get_or, cond, nat_eq, refl, sym, ap, ◌∙◌, arith}
use Rattle.std.specs.Cmp.Lexicographic.{pointwise, bytes_decides}
use Rattle.std.specs.Fmt.{decimal}
use Rattle.std.specs.List.{filter, range_with_len}
use Rattle.std.proofs.lemmas.Bool.{cases_eq}
use Rattle.std.proofs.lemmas.Fmt.{decimal_injective}
use Rattle.std.proofs.lemmas.Nat.{mod_below}
use Rattle.lists.proofs.Booleans.{never_true}
use Rattle.source_trait.specs.Asking.{HaveArity, agrees}
use Rattle.world_source.specs.Formulas.{IsPairKey, row_of, rows_of}
use Rattle.world_source.proofs.Rounds.{lead_apart}

-- ---- members of a list of numbers that pass a test

module _ {X : Type 0} (f : ℕ → X) (P : X → Bool) where
  none_pass : (a n : ℕ) → ((i : ℕ) → a ≤ i → i < a + n → P (f i) ≡ true → ⊥) → filter P (map f (range_with_len a n)) ≡ []
  none_pass a zero none = refl
  none_pass a (suc n) none =
      ap (λ b. cond b (f a ∷ filter P (map f (range_with_len (a + 1) n))) (filter P (map f (range_with_len (a + 1) n)))) (never_true (P (f a)) (none a (omega arith) (omega arith)))
      ∙ none_pass (a + 1) n (λ i low high. none i (omega (arith, low)) (omega (arith, high)))

  one_passes : (a n j : ℕ) → a ≤ j → j < a + n → P (f j) ≡ true → ((i : ℕ) → a ≤ i → i < a + n → P (f i) ≡ true → i ≡ j) → filter P (map f (range_with_len a n)) ≡ f j ∷ []
  one_passes a zero j low high is only = absurd (omega (arith, low, high))
  one_passes a (suc n) j low high is only = elim (cases_eq a j) [
    | inl same ↦
        ap (λ b. cond b (f a ∷ filter P (map f (range_with_len (a + 1) n))) (filter P (map f (range_with_len (a + 1) n)))) (ap (λ m. P (f m)) same ∙ is)
        ∙ ap (λ (l : List X). f a ∷ l) (none_pass (a + 1) n (λ i more less passes. let e = only i (omega (arith, more)) (omega (arith, less)) passes in omega (arith, e, same, more)))
        ∙ ap (λ m. f m ∷ []) same
    | inr apart ↦
        ap (λ b. cond b (f a ∷ filter P (map f (range_with_len (a + 1) n))) (filter P (map f (range_with_len (a + 1) n)))) (never_true (P (f a)) (λ passes. apart (only a (omega arith) (omega arith) passes)))
        ∙ one_passes (a + 1) n j (omega (arith, low, apart)) (omega (arith, high)) is (λ i more less passes. only i (omega (arith, more)) (omega (arith, less)) passes)
  ]

-- ---- keys of a row of two values

pub data Shape : List ℕ → List (List ℕ) → Type 0 where
  whole : Shape [] []
  first : (v : List ℕ) → Shape (0 ∷ []) (v ∷ [])
  second : (v : List ℕ) → Shape (1 ∷ []) (v ∷ [])
  both : (v w : List ℕ) → Shape (0 ∷ 1 ∷ []) (v ∷ w ∷ [])

single : (p : ℕ) (v : List ℕ) → p < 2 → Shape (p ∷ []) (v ∷ [])
single zero v low = first v
single (suc zero) v low = second v
single (suc (suc p)) v low = absurd (omega (arith, low))

double : (p q : ℕ) (v w : List ℕ) → p < q → q < 2 → Shape (p ∷ q ∷ []) (v ∷ w ∷ [])
double zero zero v w less low = absurd (omega (arith, less))
double zero (suc zero) v w less low = both v w
double zero (suc (suc q)) v w less low = absurd (omega (arith, low))
double (suc p) q v w less low = absurd (omega (arith, less, low))

pub shape : (ps : List ℕ) (vs : List (List ℕ)) → IsPairKey ps vs → Shape ps vs
shape [] [] key = whole
shape [] (v ∷ vs) key = let e = key.2 in absurd (omega (arith, e))
shape (p ∷ []) [] key = let e = key.2 in absurd (omega (arith, e))
shape (p ∷ []) (v ∷ []) key = single p v key.1.0
shape (p ∷ []) (v ∷ w ∷ vs) key = let e = key.2 in absurd (omega (arith, e))
shape (p ∷ q ∷ []) [] key = let e = key.2 in absurd (omega (arith, e))
shape (p ∷ q ∷ []) (v ∷ []) key = let e = key.2 in absurd (omega (arith, e))
shape (p ∷ q ∷ []) (v ∷ w ∷ []) key = double p q v w key.0.0.0 key.1.1.0
shape (p ∷ q ∷ []) (v ∷ w ∷ u ∷ vs) key = let e = key.2 in absurd (omega (arith, e))
shape (p ∷ q ∷ r ∷ ps) vs key =
    let one = key.0.0.0 in
    let two = key.0.1.0.0 in
    let low = key.1.1.1.0 in
    absurd (omega (arith, one, two, low))

-- ---- rows that agree

texts_same : (x v : List ℕ) (b : Bool) → (pointwise nat_eq x v && b) ≡ true → (x ≡ v) × (b ≡ true)
texts_same x v b e = go (pointwise nat_eq x v) refl e
  where
    go : (t : Bool) → pointwise nat_eq x v ≡ t → (t && b) ≡ true → (x ≡ v) × (b ≡ true)
    go true is f = ((bytes_decides x v).0 is, f)
    go false is f = absurd cc

same_texts : (x v : List ℕ) (b : Bool) → x ≡ v → b ≡ true → (pointwise nat_eq x v && b) ≡ true
same_texts x v b is f = ap (λ t. t && b) ((bytes_decides x v).1 is) ∙ f

module _ (k n : ℕ) (some : 1 ≤ n) (few : n ≤ 10000) where
  pub same_number : (i j : ℕ) → i < n → j < n → decimal i ≡ decimal j → i ≡ j
  same_number i j below there e = decimal_injective i j (omega (arith, below, few)) (omega (arith, there, few)) e

  pub round : (i : ℕ) → (i + k) % n < n
  round i = mod_below (i + k) n some

  -- no row has a text that writes none of the numbers
  pub no_row : (ps : List ℕ) (vs : List (List ℕ)) (v : List ℕ) → Shape ps vs → 1 ≤ length ps → v ≡ get_or vs 0 v → ((i : ℕ) → i < n → v ≡ decimal i → ⊥) → filter (agrees ps vs) (rows_of k n) ≡ []
  no_row ps vs v whole long is none = absurd (omega (arith, long))
  no_row ps vs v (first u) long is none =
      none_pass (row_of k n) (agrees (0 ∷ []) (u ∷ [])) 0 n (λ i low high passes. none i (omega (arith, high)) (is ∙ sym (texts_same (decimal i) u true passes).0))
  no_row ps vs v (second u) long is none =
      none_pass (row_of k n) (agrees (1 ∷ []) (u ∷ [])) 0 n (λ i low high passes. none ((i + k) % n) (round i) (is ∙ sym (texts_same (decimal ((i + k) % n)) u true passes).0))
  no_row ps vs v (both u w) long is none =
      none_pass (row_of k n) (agrees (0 ∷ 1 ∷ []) (u ∷ w ∷ [])) 0 n (λ i low high passes. none i (omega (arith, high)) (is ∙ sym (texts_same (decimal i) u _ passes).0))

  -- the row that leads to a number
  pub row_before : (ps : List ℕ) (vs : List (List ℕ)) (v : List ℕ) (m j : ℕ) → Shape ps vs → 1 ≤ length ps → get_or ps 0 0 ≡ 1 → v ≡ get_or vs 0 v → v ≡ decimal m → m < n → j < n → (j + k) % n ≡ m →
      filter (agrees ps vs) (rows_of k n) ≡ row_of k n j ∷ []
  row_before ps vs v m j whole long at is reads below there leads = absurd (omega (arith, long))
  row_before ps vs v m j (first u) long at is reads below there leads = absurd (omega (arith, at))
  row_before ps vs v m j (second u) long at is reads below there leads =
      one_passes (row_of k n) (agrees (1 ∷ []) (u ∷ [])) 0 n j (omega arith) (omega (arith, there))
      (same_texts (decimal ((j + k) % n)) u true (ap decimal leads ∙ sym reads ∙ is) refl)
      (λ i low high passes.
      let e : decimal ((i + k) % n) ≡ decimal ((j + k) % n) = (texts_same (decimal ((i + k) % n)) u true passes).0 ∙ sym is ∙ reads ∙ sym (ap decimal leads) in
      lead_apart k n some i j (omega (arith, high)) there (same_number ((i + k) % n) ((j + k) % n) (round i) (round j) e))
  row_before ps vs v m j (both u w) long at is reads below there leads = absurd (omega (arith, at))

  -- the row of a number
  pub row_at : (ps : List ℕ) (vs : List (List ℕ)) (v : List ℕ) (i : ℕ) → Shape ps vs → 1 ≤ length ps → get_or ps 0 0 ≢ 1 → v ≡ get_or vs 0 v → v ≡ decimal i → i < n →
      (1 < length vs → get_or vs 1 [] ≡ decimal ((i + k) % n)) → filter (agrees ps vs) (rows_of k n) ≡ row_of k n i ∷ []
  row_at ps vs v i whole long at is reads below then = absurd (omega (arith, long))
  row_at ps vs v i (first u) long at is reads below then =
      one_passes (row_of k n) (agrees (0 ∷ []) (u ∷ [])) 0 n i (omega arith) (omega (arith, below))
      (same_texts (decimal i) u true (sym reads ∙ is) refl)
      (λ j low high passes. same_number j i (omega (arith, high)) below ((texts_same (decimal j) u true passes).0 ∙ sym is ∙ reads))
  row_at ps vs v i (second u) long at is reads below then = absurd (at refl)
  row_at ps vs v i (both u w) long at is reads below then =
      one_passes (row_of k n) (agrees (0 ∷ 1 ∷ []) (u ∷ w ∷ [])) 0 n i (omega arith) (omega (arith, below))
      (same_texts (decimal i) u _ (sym reads ∙ is) (same_texts (decimal ((i + k) % n)) w true (sym (then (omega arith))) refl))
      (λ j low high passes. same_number j i (omega (arith, high)) below ((texts_same (decimal j) u _ passes).0 ∙ sym is ∙ reads))

  -- the row of a number has another second value
  pub row_apart : (ps : List ℕ) (vs : List (List ℕ)) (v w : List ℕ) (i : ℕ) → Shape ps vs → 1 ≤ length ps → v ≡ get_or vs 0 v → v ≡ decimal i → i < n → 1 < length vs → w ≡ get_or vs 1 w →
      (w ≡ decimal ((i + k) % n) → ⊥) → filter (agrees ps vs) (rows_of k n) ≡ []
  row_apart ps vs v w i whole long is reads below two also other = absurd (omega (arith, long))
  row_apart ps vs v w i (first u) long is reads below two also other = absurd (omega (arith, two))
  row_apart ps vs v w i (second u) long is reads below two also other = absurd (omega (arith, two))
  row_apart ps vs v w i (both u x) long is reads below two also other =
      none_pass (row_of k n) (agrees (0 ∷ 1 ∷ []) (u ∷ x ∷ [])) 0 n (λ j low high passes.
      let parts = texts_same (decimal j) u _ passes in
      let same : j ≡ i = same_number j i (omega (arith, high)) below (parts.0 ∙ sym is ∙ reads) in
      let last = texts_same (decimal ((j + k) % n)) x true parts.1 in
      other (also ∙ sym last.0 ∙ ap (λ m. decimal ((m + k) % n)) same))

-- each row has two values
pub two_values : (k a n : ℕ) (m : ℕ) → HaveArity 2 (map (row_of k n) (range_with_len a m))
two_values k a n zero = tt
two_values k a n (suc m) = (refl, two_values k (a + 1) n m)

pub rows_are_pairs : (k n : ℕ) → HaveArity 2 (rows_of k n)
rows_are_pairs k n = two_values k 0 n n
