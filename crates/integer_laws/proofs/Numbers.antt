-- There are integers for as many labels as fit beside the constants.
use Rattle.std.proofs.Common.{◌≡◌, ℕ, zero, suc, ◌+◌, ◌^◌, ◌<◌, ◌≤◌, List, [], ◌∷◌, length, refl, sym, ap, ◌∙◌, subst, inl, ⊎_elim, arith}
use mathlib.Core.List.{List-discrete}
use Rattle.std.proofs.Math.Decide.{ℕ_discrete}
use Rattle.std.specs.Prelude.{Contains, slice_index_or}
use Rattle.std.specs.Fmt.{decimal}
use Rattle.std.proofs.lemmas.Fmt.{decimal_injective}
use Rattle.std.proofs.lemmas.List.Elements.{Contains-get_or}
use Rattle.lists.proofs.Members.{contains_here, contains_there, contains_cases, contains_none}
use Rattle.meaning.specs.declared.types.Ground.{Ground}
use Rattle.meaning.specs.declared.types.SchemaParts.{SchemaParts}
use Rattle.meaning.specs.Integers.{IsInteger}
use Rattle.meaning.specs.Naming.{IsNaming}
use Rattle.meaning.specs.Search.{AreDistinct}
use Rattle.integer_laws.specs.Sorted.{NamesIntegers}

-- the decimals of the numbers below n, the greatest first
decimals_below : ℕ → List (List ℕ)
decimals_below zero = []
decimals_below (suc n) = decimal n ∷ decimals_below n

decimals_many : (n : ℕ) → length (decimals_below n) ≡ n
unfolding decimals_below
decimals_many zero = refl
decimals_many (suc n) = ap suc (decimals_many n)

decimals_are : (n : ℕ) (text : List ℕ) → Contains (decimals_below n) text → (m : ℕ) × (m < n) × (decimal m ≡ text)
unfolding decimals_below
decimals_are zero text c = absurd (contains_none text c)
decimals_are (suc n) text c =
    ⊎_elim (λ e. (n, omega arith, e)) (λ h. let (m, below, e) = decimals_are n text h in (m, omega arith, e))
    (contains_cases (decimal n) (decimals_below n) text c)

decimals_differ : (n : ℕ) → n ≤ 2 ^ 63 → AreDistinct (decimals_below n)
unfolding decimals_below
decimals_differ zero few = tt
decimals_differ (suc n) few = (
  (λ c.
      let (m, below, e) = decimals_are n (decimal n) c in
      let same : m ≡ n = decimal_injective m n (omega arith) (omega arith) e in
      omega arith),
  decimals_differ n (omega arith),
)

-- texts among others that differ, none of which is a constant
record AreFree (constants texts rest : List (List ℕ)) : Type 0 where
  many : length texts ≤ length rest + length constants
  differ : AreDistinct rest
  among : (text : List ℕ) → Contains rest text → Contains texts text
  free : (text : List ℕ) → Contains constants text → Contains rest text → ⊥

-- one text is passed over
one_free : (c : List ℕ) (texts : List (List ℕ)) → AreDistinct texts → (rest : List (List ℕ)) × AreFree (c ∷ []) texts rest
one_free c [] differ = (
  [],
  record {
    many = omega arith;
    differ = differ;
    among = λ text i. i;
    free = λ text i j. contains_none text j;
  },
)
one_free c (first ∷ texts) (new, differ) =
    elim (List-discrete ℕ_discrete first c) [
      | yes e ↦ (
        texts,
        record {
          many = omega arith;
          differ = differ;
          among = λ text i. contains_there first texts text i;
          free = λ text i j. ⊎_elim (λ same. new (subst (Contains texts) (sym same ∙ sym e) j)) (λ none. contains_none text none)
              (contains_cases c [] text i);
        },
      )
      | no apart ↦
          let (rest, are) = one_free c texts differ in
          let fewer = are.many in (
            first ∷ rest,
            record {
              many = omega arith;
              differ = ((λ i. new (are.among first i)), are.differ);
              among = λ text i. ⊎_elim (λ same. subst (Contains (first ∷ texts)) same (contains_here first texts))
                  (λ h. contains_there first texts text (are.among text h)) (contains_cases first rest text i);
              free = λ text i j. ⊎_elim
                  (λ same. ⊎_elim (λ is. apart (same ∙ sym is)) (λ none. contains_none text none) (contains_cases c [] text i))
                  (λ h. are.free text i h) (contains_cases first rest text j);
            },
          )
    ]

-- the constants are passed over one after another
are_free : (constants texts : List (List ℕ)) → AreDistinct texts → (rest : List (List ℕ)) × AreFree constants texts rest
are_free [] texts differ = (
  texts,
  record {
    many = omega arith;
    differ = differ;
    among = λ text i. i;
    free = λ text i j. contains_none text i;
  },
)
are_free (c ∷ constants) texts differ =
    let (some, are) = are_free constants texts differ in
    let (rest, last) = one_free c some are.differ in
    let fewer = are.many in
    let one = last.many in (
      rest,
      record {
        many = omega arith;
        differ = last.differ;
        among = λ text i. are.among text (last.among text i);
        free = λ text i j. ⊎_elim (λ same. last.free text (subst (Contains (c ∷ [])) same (contains_here c [])) j)
            (λ h. are.free text h (last.among text j)) (contains_cases c constants text i);
      },
    )

-- different texts stand at different places
place_once : (texts : List (List ℕ)) (d : List ℕ) (j k : ℕ) → AreDistinct texts → j < length texts → k < length texts →
    slice_index_or texts j d ≡ slice_index_or texts k d → j ≡ k
place_once [] d j k differ l m e = absurd (omega arith)
place_once (first ∷ texts) d zero zero differ l m e = refl
place_once (first ∷ texts) d zero (suc k) (new, differ) l m e =
    absurd (new (subst (Contains texts) (sym e) (Contains-get_or texts k d (omega arith))))
place_once (first ∷ texts) d (suc j) zero (new, differ) l m e =
    absurd (new (subst (Contains texts) e (Contains-get_or texts j d (omega arith))))
place_once (first ∷ texts) d (suc j) (suc k) (new, differ) l m e =
    ap suc (place_once texts d j k differ (omega arith) (omega arith) e)

-- what holds of each text and of the default holds at each place
places_have : (P : List ℕ → Type 0) (texts : List (List ℕ)) (d : List ℕ) → P d →
    ((text : List ℕ) → Contains texts text → P text) → (k : ℕ) → P (slice_index_or texts k d)
places_have P [] d other each k = other
places_have P (first ∷ texts) d other each zero = each first (contains_here first texts)
places_have P (first ∷ texts) d other each (suc k) =
    places_have P texts d other (λ text c. each text (contains_there first texts text c)) k

-- where n labels and the constants are no more than 2 ^ 63, integers name the labels below n
pub integer_naming_exists : (constants : List (List ℕ)) (n : ℕ) → n + length constants ≤ 2 ^ 63 →
    (h : ℕ → List ℕ) × IsNaming constants n h × ((k : ℕ) → IsInteger (h k))
integer_naming_exists constants n few =
    let all : ℕ = n + length constants in
    let (texts, are) = are_free constants (decimals_below all) (decimals_differ all few) in
    let many : length (decimals_below all) ≤ length texts + length constants = are.many in
    let as_many : length (decimals_below all) ≡ all = decimals_many all in
    let enough : n ≤ length texts = omega arith in (
      (λ k. slice_index_or texts k (decimal 0)),
      record {
        differ = λ j k l m e. place_once texts (decimal 0) j k are.differ (omega arith) (omega arith) e;
        new = λ k l c. are.free (slice_index_or texts k (decimal 0)) c (Contains-get_or texts k (decimal 0) (omega arith));
      },
      places_have IsInteger texts (decimal 0) (inl (0, omega arith, refl))
          (λ text c. let (m, below, e) = decimals_are all text (are.among text c) in inl (m, omega arith, sym e)),
    )

-- they name the labels of any facts, since an integer is a text too
pub mixed_naming_exists : (schema : SchemaParts) (constants : List (List ℕ)) (n : ℕ) → n + length constants ≤ 2 ^ 63 →
    (h : ℕ → List ℕ) × IsNaming constants n h × ((facts : List Ground) → NamesIntegers schema facts h)
mixed_naming_exists schema constants n few =
    let (h, naming, integers) = integer_naming_exists constants n few in
    (h, naming, λ facts fact place k among holds got. integers k)
