-- The first comma or line feed behind a place of a plain text, and the bytes before it.
use Rattle.std.proofs.Common.{◌≡◌, ◌+◌, ◌-◌, ◌<◌, ◌≤◌, ℕ, zero, suc, List, [], ◌∷◌, ◌++◌, length, take, drop, get_or, Bool, true, false, cond, refl, sym, ◌∙◌, ap, subst, arith, ⊎_elim}
use Rattle.std.specs.List.{AllByRecursion}
use Rattle.std.proofs.lemmas.Bool.{cases_eq}
use Rattle.std.proofs.lemmas.List.{drop-drop, drop_more, take-append-drop}
use Rattle.memchr.specs.Find.{is_byte2, places_between, places_from}
use Rattle.csv_sources.specs.Plain.{IsPlain}

-- a byte that joins a field of a plain text
abbrev pub Joins : ℕ → Type 0
Joins c = (is_byte2 44 10 c ≡ false) × (is_byte2 34 13 c ≡ false)

-- the first of so many places from i on that passes, and the others that do
record IsFirstPlace (test : ℕ → Bool) (hay : List ℕ) (i n k : ℕ) (more : List ℕ) : Type 0 where
  pub low : i ≤ k
  pub high : k < i + n
  pub passes : test (get_or hay k 0) ≡ true
  pub before : (m : ℕ) → i ≤ m → m < k → test (get_or hay m 0) ≡ false
  pub onward : more ≡ places_from test hay (k + 1) (i + n - (k + 1))

first_place : (test : ℕ → Bool) (hay : List ℕ) (i n k : ℕ) (more : List ℕ) → places_from test hay i n ≡ k ∷ more → IsFirstPlace test hay i n k more
unfolding places_from
first_place test hay i zero k more h = absurd (cc)
first_place test hay i (suc n) k more h = by (test (get_or hay i 0)) refl h (λ rest. first_place test hay (i + 1) n k more rest)
  where
    by : (b : Bool) → test (get_or hay i 0) ≡ b → cond b (i ∷ places_from test hay (i + 1) n) (places_from test hay (i + 1) n) ≡ k ∷ more
        → (places_from test hay (i + 1) n ≡ k ∷ more → IsFirstPlace test hay (i + 1) n k more) → IsFirstPlace test hay i (suc n) k more
    by true is h behind =
        let at : i ≡ k = cc in
        let rest : places_from test hay (i + 1) n ≡ more = cc in
        let next : i + 1 ≡ k + 1 = omega arith in
        let count : n ≡ i + suc n - (k + 1) = omega arith in
        record {
          low = omega arith;
          high = omega arith;
          passes = subst (λ m. test (get_or hay m 0) ≡ true) at is;
          before = λ m low high. absurd (omega arith);
          onward = sym rest ∙ ap (λ j. places_from test hay j n) next ∙ ap (places_from test hay (k + 1)) count;
        }
    by false is h behind =
        let first = behind h in
        let low : i + 1 ≤ k = first.low in
        let count : i + 1 + n - (k + 1) ≡ i + suc n - (k + 1) = omega arith in
        record {
          low = omega arith;
          high = omega (arith, first.high);
          passes = first.passes;
          before = λ m from below. ⊎_elim (λ same. subst (λ p. test (get_or hay p 0) ≡ false) (sym same) is) (λ other. first.before m (omega arith) below) (cases_eq m i);
          onward = first.onward ∙ ap (places_from test hay (k + 1)) count;
        }

-- where no place passes
none_passes : (test : ℕ → Bool) (hay : List ℕ) (i n : ℕ) → places_from test hay i n ≡ [] → (m : ℕ) → i ≤ m → m < i + n → test (get_or hay m 0) ≡ false
unfolding places_from
none_passes test hay i zero h m low high = absurd (omega arith)
none_passes test hay i (suc n) h m low high = by (test (get_or hay i 0)) refl h (λ rest from. none_passes test hay (i + 1) n rest m from (omega arith))
  where
    by : (b : Bool) → test (get_or hay i 0) ≡ b → cond b (i ∷ places_from test hay (i + 1) n) (places_from test hay (i + 1) n) ≡ []
        → (places_from test hay (i + 1) n ≡ [] → i + 1 ≤ m → test (get_or hay m 0) ≡ false) → test (get_or hay m 0) ≡ false
    by true is h behind = absurd (cc)
    by false is h behind = ⊎_elim (λ same. subst (λ p. test (get_or hay p 0) ≡ false) (sym same) is) (λ other. behind h (omega arith)) (cases_eq m i)

-- bytes of a plain text among which there is no separator
joins_run : (text : List ℕ) (start n : ℕ) → start + n ≤ length text → IsPlain text → ((m : ℕ) → start ≤ m → m < start + n → is_byte2 44 10 (get_or text m 0) ≡ false)
    → AllByRecursion Joins (take n (drop start text))
joins_run text start zero fits plain none = tt
joins_run text start (suc n) fits plain none =
    let here : drop start text ≡ get_or text start 0 ∷ drop (start + 1) text = drop_more text start 0 (omega arith) in
    let joins : Joins (get_or text start 0) = (none start (omega arith) (omega arith), plain start 0 (omega arith)) in
    subst (λ (l : List ℕ). AllByRecursion Joins (take (suc n) l)) (sym here)
    (joins, joins_run text (start + 1) n (omega arith) plain (λ m low high. none m (omega arith) (omega arith)))

-- the first separator behind a place, and the bytes before it
pub record IsCut (text : List ℕ) (start place : ℕ) (later : List ℕ) : Type 0 where
  pub low : start ≤ place
  pub high : place < length text
  pub separates : is_byte2 44 10 (get_or text place 0) ≡ true
  pub joins : AllByRecursion Joins (take (place - start) (drop start text))
  pub splits : drop start text ≡ take (place - start) (drop start text) ++ get_or text place 0 ∷ drop (place + 1) text
  pub onward : later ≡ places_between (is_byte2 44 10) text (place + 1) (length text)

pub cut_at : (text : List ℕ) (start place : ℕ) (later : List ℕ) → IsPlain text → start ≤ length text → places_between (is_byte2 44 10) text start (length text) ≡ place ∷ later → IsCut text start place later
cut_at text start place later plain within places =
    let first = first_place (is_byte2 44 10) text start (length text - start) place later places in
    let low : start ≤ place = first.low in
    let high : place < length text = omega (arith, first.high) in
    let to : start + (place - start) ≡ place = omega arith in
    let count : start + (length text - start) - (place + 1) ≡ length text - (place + 1) = omega arith in
    record {
      low = low;
      high = high;
      separates = first.passes;
      joins = joins_run text start (place - start) (omega arith) plain (λ m from below. first.before m from (omega arith));
      splits =
          sym (take-append-drop (place - start) (drop start text))
          ∙ ap (λ (l : List ℕ). take (place - start) (drop start text) ++ l) (drop-drop (place - start) start text ∙ ap (λ n. drop n text) to ∙ drop_more text place 0 high);
      onward = first.onward ∙ ap (places_from (is_byte2 44 10) text (place + 1)) count;
    }

-- behind the last separator all bytes join a field
pub joins_rest : (text : List ℕ) (start : ℕ) → IsPlain text → start ≤ length text → places_between (is_byte2 44 10) text start (length text) ≡ [] → AllByRecursion Joins (take (length text - start) (drop start text))
joins_rest text start plain within places =
    joins_run text start (length text - start) (omega arith) plain (λ m low high. none_passes (is_byte2 44 10) text start (length text - start) places m low (omega arith))
