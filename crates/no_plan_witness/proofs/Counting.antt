-- Free texts are counted up, and no number is so high that it is not that of a text or of a constant.
use Rattle.std.proofs.Common.{◌≡◌, ◌⊎◌, ◌↔◌, ◌<◌, ◌≤◌, ◌+◌, ◌^◌, ◌∙◌, sym, ap, subst, ℕ, zero, suc, List, [], ◌∷◌, ◌++◌, length, get_or, drop, Some, refl, inl, inr, ⊎_elim, arith, slice_get}
use Rattle.std.specs.Prelude.{Contains}
use Rattle.std.specs.List.Sorted.{IsStrictlyIncreasing}
use Rattle.std.proofs.lemmas.Bool.{cases_lt}
use Rattle.std.proofs.lemmas.Fmt.{decimal_injective}
use Rattle.std.proofs.lemmas.List.{length-append, get_or_append_left, get_or_push, map-append}
use Rattle.std.proofs.lemmas.List.Elements.{Contains-get_or, Contains-append_left, Contains-append_right, Contains-push, Contains-push_cases}
use Rattle.access_schema.specs.Names.{AllDiffer}
use Rattle.access_schema.proofs.Texts.{length_le}
use Rattle.lists.proofs.Members.{contains_map, some_injective}
use Rattle.lists.proofs.Places.{got_contained}
use Rattle.meaning.specs.declared.types.Sort.{Sort}
use Rattle.meaning.specs.declared.types.Sort.TheVariants.{Text, Int}
use Rattle.no_plan_witness.specs.Texts.{numbered_text, AreFirstFree}
use Rattle.no_plan_witness.specs.Passing.{AreFreeUpTo}

-- two numbers of 64 bits have two texts
pub numbered_apart : (sort : Sort) (j k : ℕ) → j < 2 ^ 64 → k < 2 ^ 64 → numbered_text sort j ≡ numbered_text sort k → j ≡ k
numbered_apart Text j k p q e = decimal_injective j k p q (ap (drop 1) e)
numbered_apart Int j k p q e = decimal_injective j k p q e

last_or_before : (other last number : ℕ) → number ≡ last + 1 → other ≤ number → (other ≤ last) ⊎ (number ≡ other)
last_or_before other last number is high = ⊎_elim (λ l. inl (omega arith)) (λ l. inr (omega arith)) (cases_lt other number)

-- a number whose text is a constant is passed over
pub taken_passed : (sort : Sort) (constants : List (List ℕ)) (last number : ℕ) (texts : List (List ℕ)) → AreFreeUpTo sort constants last texts → number ≡ last + 1 → Contains constants (numbered_text sort number) → AreFreeUpTo sort constants number texts
taken_passed sort constants last number texts free is taken = record {
  numbers = free.numbers;
  texts_are = free.texts_are;
  ascend = free.ascend;
  counted = λ n c. let (low, high) = free.counted n c in (low, omega arith);
  free = free.free;
  passed = λ other low high. ⊎_elim (λ l. free.passed other low l) (λ e. inr (subst (λ n. Contains constants (numbered_text sort n)) e taken)) (last_or_before other last number is high);
}

-- numbers that ascend, and a higher one behind them
ascends_push : (numbers : List ℕ) (number : ℕ) → IsStrictlyIncreasing numbers → ((n : ℕ) → Contains numbers n → n < number) → IsStrictlyIncreasing (numbers ++ number ∷ [])
ascends_push numbers number ascend below = λ k l. ⊎_elim
    (λ (within : k + 1 < length numbers).
    let first : get_or (numbers ++ number ∷ []) k 0 ≡ get_or numbers k 0 = get_or_append_left numbers (number ∷ []) 0 k (omega arith) in
    let second : get_or (numbers ++ number ∷ []) (k + 1) 0 ≡ get_or numbers (k + 1) 0 = get_or_append_left numbers (number ∷ []) 0 (k + 1) within in
    let rises : get_or numbers k 0 < get_or numbers (k + 1) 0 = ascend k within in
    omega arith)
    (λ (end : length numbers ≤ k + 1).
    let many : length (numbers ++ number ∷ []) ≡ length numbers + 1 = length-append numbers (number ∷ []) in
    let first : get_or (numbers ++ number ∷ []) k 0 ≡ get_or numbers k 0 = get_or_append_left numbers (number ∷ []) 0 k (omega arith) in
    let second : get_or (numbers ++ number ∷ []) (k + 1) 0 ≡ number = get_or_push numbers number 0 (k + 1) (omega arith) in
    let rises : get_or numbers k 0 < number = below (get_or numbers k 0) (Contains-get_or numbers k 0 (omega arith)) in
    omega arith)
    (cases_lt (k + 1) (length numbers))

-- a free number's text is the next one
pub free_taken : (sort : Sort) (constants : List (List ℕ)) (last number : ℕ) (texts more : List (List ℕ)) → AreFreeUpTo sort constants last texts → number ≡ last + 1 → (Contains constants (numbered_text sort number) → ⊥) → more ≡ texts ++ numbered_text sort number ∷ [] → AreFreeUpTo sort constants number more
free_taken sort constants last number texts more free is new e = record {
  numbers = free.numbers ++ number ∷ [];
  texts_are = e ∙ ap (λ l. l ++ numbered_text sort number ∷ []) free.texts_are ∙ sym (map-append (numbered_text sort) free.numbers (number ∷ []));
  ascend = ascends_push free.numbers number free.ascend (λ n c. let (low, high) = free.counted n c in omega arith);
  counted = λ n c. ⊎_elim (λ h. let (low, high) = free.counted n h in (low, omega arith)) (λ same. (omega arith, omega arith)) (Contains-push_cases free.numbers number n c);
  free = λ n c among. ⊎_elim (λ h. free.free n h among) (λ same. new (subst (λ m. Contains constants (numbered_text sort m)) (sym same) among)) (Contains-push_cases free.numbers number n c);
  passed = λ other low high. ⊎_elim
      (λ l. ⊎_elim (λ h. inl (Contains-append_left free.numbers (number ∷ []) other h)) (λ h. inr h) (free.passed other low l))
      (λ same. inl (subst (Contains (free.numbers ++ number ∷ [])) same (Contains-push free.numbers number)))
      (last_or_before other last number is high);
}

pub first_free : (sort : Sort) (constants : List (List ℕ)) (last : ℕ) (texts : List (List ℕ)) → AreFreeUpTo sort constants last texts → last < 2 ^ 63 → AreFirstFree sort constants texts
first_free sort constants last texts free small = record {
  numbers = free.numbers;
  texts_are = free.texts_are;
  ascend = free.ascend;
  counted = λ n c. let (low, high) = free.counted n c in (low, omega arith);
  free = free.free;
  passed = λ other n low below c. let (least, most) = free.counted n c in free.passed other low (omega arith);
}

-- the texts of the first numbers, the last one first
counted_down : Sort → ℕ → List (List ℕ)
counted_down sort zero = []
counted_down sort (suc n) = numbered_text sort (suc n) ∷ counted_down sort n

length_down : (sort : Sort) (n : ℕ) → length (counted_down sort n) ≡ n
unfolding counted_down
length_down sort zero = refl
length_down sort (suc n) = let rest = length_down sort n in omega arith

down_at : (sort : Sort) (n i : ℕ) (text : List ℕ) → slice_get (counted_down sort n) i ≡ Some text → (k : ℕ) × (k + i ≡ n) × (1 ≤ k) × (text ≡ numbered_text sort k)
unfolding counted_down
down_at sort zero i text e = absurd (cc)
down_at sort (suc n) zero text e = (suc n, omega arith, omega arith, sym (some_injective (numbered_text sort (suc n)) text e))
down_at sort (suc n) (suc i) text e = let (k, sum, low, is) = down_at sort n i text e in (k, omega arith, low, is)

down_differ : (sort : Sort) (n : ℕ) → n < 2 ^ 64 → AllDiffer (counted_down sort n)
down_differ sort n small = λ i j text at_i at_j.
    let (k, sum, low, is) = down_at sort n i text at_i in
    let (m, other, least, same) = down_at sort n j text at_j in
    let e : k ≡ m = numbered_apart sort k m (omega arith) (omega arith) (sym is ∙ same) in
    omega arith

-- there are at most as many numbers up to the last one as texts and constants together
pub few_passed : (sort : Sort) (known constants sorted texts : List (List ℕ)) (last : ℕ) → sorted ≡ constants → ((text : List ℕ) → Contains constants text ↔ Contains known text) → AreFreeUpTo sort known last texts → last < 2 ^ 64 → last ≤ length texts + length sorted
few_passed sort known constants sorted texts last view kept free small =
    let few : length (counted_down sort last) ≤ length (texts ++ sorted) = length_le (counted_down sort last) (texts ++ sorted) (down_differ sort last small) within in
    let all = length_down sort last in
    let both = length-append texts sorted in
    omega arith
  where
    within : (text : List ℕ) → Contains (counted_down sort last) text → Contains (texts ++ sorted) text
    within text c =
        let (k, sum, low, is) = down_at sort last c.0 text (got_contained (counted_down sort last) text c) in
        subst (Contains (texts ++ sorted)) (sym is) (⊎_elim
        (λ h. Contains-append_left texts sorted (numbered_text sort k) (subst (λ l. Contains l (numbered_text sort k)) (sym free.texts_are) (contains_map (numbered_text sort) free.numbers k h)))
        (λ h. Contains-append_right texts sorted (numbered_text sort k) (subst (λ l. Contains l (numbered_text sort k)) (sym view) ((kept (numbered_text sort k)).1 h)))
        (free.passed k low (omega arith)))
