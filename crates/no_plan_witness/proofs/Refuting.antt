-- The texts of the labels that occur are part of a naming of all labels, so the pair of a stuck proof refutes.
use Rattle.std.proofs.Common.{◌≡◌, ◌⊎◌, ◌<◌, ◌+◌, ◌^◌, ◌∙◌, sym, ap, subst, ℕ, List, [], ◌++◌, length, get_or, true, false, cond, refl, inl, inr, ⊎_elim, arith}
use Rattle.std.specs.Prelude.{Contains, map}
use Rattle.std.proofs.lemmas.Bool.{cases_Bool}
use Rattle.std.proofs.lemmas.List.{length-map, get_or-map}
use Rattle.std.proofs.lemmas.Option.{get_or_from_slice_get}
use Rattle.std.proofs.lemmas.List.Elements.{Contains-get_or, Contains-append_left, Contains-append_right, Contains-append_cases}
use Rattle.lists.proofs.Members.{contains_map, contains_mapped, map_same}
use Rattle.lists.proofs.Places.{got_contained}
use Rattle.lists.proofs.Digits.{decimal_digits}
use Rattle.std.specs.Str.{all_ascii_digits}
use Rattle.meaning.specs.declared.types.Term.{Term}
use Rattle.meaning.specs.declared.types.Term.TheVariants.{Var, Const as Said}
use Rattle.meaning.specs.declared.types.Val.{Val}
use Rattle.meaning.specs.declared.types.Val.TheVariants.{Const, Label}
use Rattle.meaning.specs.declared.types.Ground.{Ground}
use Rattle.meaning.specs.declared.types.Query.{Query}
use Rattle.meaning.specs.declared.types.SchemaParts.{SchemaParts}
use Rattle.meaning.specs.declared.types.Statement.{Statement}
use Rattle.meaning.specs.declared.types.Firing.{Firing}
use Rattle.meaning.specs.Matching.{value_of, AreFacts, GroundsOf, AnswersQuery}
use Rattle.meaning.specs.Homomorphisms.{image, fact_of, renamed}
use Rattle.meaning.specs.Naming.{IsNaming}
use Rattle.meaning.specs.Triggers.{AreNumbered}
use Rattle.meaning.specs.Runs.{Proof, IsRun, opening, frozen_head, IsStuck}
use Rattle.meaning.specs.Fitting.{RulesFit, QueryHasConstants, QueryFits, IsKept}
use Rattle.meaning.specs.Conjunctive.{StandFor}
use Rattle.meaning.specs.Claims.{Refutes}
use Rattle.meaning.specs.Sorts.{AtomsAreSorted}
use Rattle.meaning.specs.declared.types.Sort.{Sort}
use Rattle.meaning.specs.declared.types.Sort.TheVariants.{Text, Int}
use Rattle.meaning_laws.proofs.Kept.{kept_opening, kept_run}
use Rattle.meaning_laws.proofs.Renaming.{naming_exists, answer_renamed}
use Rattle.meaning_laws.proofs.Witness.{witness_refutes}
use Rattle.findings.specs.declared.refutation.Witness.{Witness}
use Rattle.integer_laws.specs.Sorted.{AreSortedFacts, AreSortedGrounds, NamesIntegers, AreSortedRules, ProofIsSorted}
use Rattle.integer_laws.proofs.Firings.{renamed_sorted, opening_sorted, proof_sorted}
use Rattle.no_plan_witness.specs.Texts.{labels_in, numbered_text, Column, IsColumnOf, Names, text_in, text_under, AreNamesFor}
use Rattle.no_plan_witness.specs.Witnesses.{IsWitnessOf}
use Rattle.integer_laws.specs.Claimed.{RefutesSorted}
use Rattle.no_plan_witness.proofs.Apart.{has_label, label_there, label_not_there}
use Rattle.no_plan_witness.proofs.Counting.{numbered_apart}
use Rattle.no_plan_witness.proofs.Occurring.{label_occurs, more_labels}
use Rattle.no_plan_witness.proofs.Looking.{text_found, text_absent, one_place}

-- one column of names
module _ {IsOne : ℕ → Type 0} {sort : Sort} {constants : List (List ℕ)} (column : Column) (are : IsColumnOf IsOne sort constants column) where
  numbers : List ℕ
  numbers = are.texts_are.numbers

  -- the text of a label is that of the number at the label's place
  number_of : (k : ℕ) → Contains column.labels k → (i : ℕ) × (i < length column.labels) × (get_or column.labels i 0 ≡ k) × Contains numbers (get_or numbers i 0) × ((other : List ℕ) → text_in column other k ≡ numbered_text sort (get_or numbers i 0))
  unfolding numbers
  number_of k (i, l, e) =
      let at : get_or column.labels i 0 ≡ k = get_or_from_slice_get column.labels i k 0 (got_contained column.labels k (i, l, e)) in
      let many : length (map (numbered_text sort) are.texts_are.numbers) ≡ length column.labels = sym (ap length are.texts_are.texts_are) ∙ are.as_many in
      let within : i < length are.texts_are.numbers = let mapped = length-map are.texts_are.numbers (numbered_text sort) in omega arith in (
        i,
        l,
        at,
        Contains-get_or are.texts_are.numbers i 0 within,
        λ other. text_found column.labels column.texts other i k [] are.ascend l at are.as_many
            ∙ ap (λ texts. get_or texts i []) are.texts_are.texts_are
            ∙ get_or-map (numbered_text sort) are.texts_are.numbers i 0 [] within,
      )

  -- a number of 63 bits
  pub numbered : (k : ℕ) → Contains column.labels k → (number : ℕ) × (number < 2 ^ 63) × ((other : List ℕ) → text_in column other k ≡ numbered_text sort number)
  unfolding numbers
  numbered k c =
      let (i, l, at, inside, is) = number_of k c in
      (get_or numbers i 0, (are.texts_are.counted (get_or numbers i 0) inside).1, is)

  column_apart : (j k : ℕ) (other : List ℕ) → Contains column.labels j → Contains column.labels k → text_in column other j ≡ text_in column other k → j ≡ k
  unfolding numbers
  column_apart j k other c d e =
      let (p, p_low, p_at, p_in, p_is) = number_of j c in
      let (q, q_low, q_at, q_in, q_is) = number_of k d in
      let (p_least, p_small) = are.texts_are.counted (get_or numbers p 0) p_in in
      let (q_least, q_small) = are.texts_are.counted (get_or numbers q 0) q_in in
      let same : get_or numbers p 0 ≡ get_or numbers q 0 = numbered_apart sort (get_or numbers p 0) (get_or numbers q 0) (omega arith) (omega arith) (sym (p_is other) ∙ e ∙ q_is other) in
      let many : length numbers ≡ length column.labels = sym (length-map numbers (numbered_text sort)) ∙ sym (ap length are.texts_are.texts_are) ∙ are.as_many in
      let place : p ≡ q = one_place numbers p q are.texts_are.ascend (omega arith) (omega arith) same in
      sym p_at ∙ ap (λ i. get_or column.labels i 0) place ∙ q_at

  column_new : (k : ℕ) (other : List ℕ) → Contains column.labels k → Contains constants (text_in column other k) → ⊥
  unfolding numbers
  column_new k other c among =
      let (i, low, at, inside, is) = number_of k c in
      are.texts_are.free (get_or numbers i 0) inside (subst (Contains constants) (is other) among)

  column_there : (k : ℕ) (other : List ℕ) → Contains column.labels k → Contains column.texts (text_in column other k)
  unfolding numbers
  column_there k other c =
      let (i, low, at, inside, is) = number_of k c in
      subst (Contains column.texts) (sym (is other)) (subst (λ texts. Contains texts (numbered_text sort (get_or numbers i 0))) (sym are.texts_are.texts_are) (contains_map (numbered_text sort) numbers (get_or numbers i 0) inside))

  column_passes : (k : ℕ) (other : List ℕ) → (Contains column.labels k → ⊥) → text_in column other k ≡ other
  column_passes k other none = text_absent column.labels column.texts other k (λ i l at. none (subst (Contains column.labels) at (Contains-get_or column.labels i 0 l)))

-- an integer begins with a digit
kinds_apart : (j k : ℕ) → j < 2 ^ 63 → numbered_text Int j ≡ numbered_text Text k → ⊥
kinds_apart j k small e =
    let digits : all_ascii_digits (numbered_text Int j) ≡ true = decimal_digits j (omega arith) in
    let none : all_ascii_digits (numbered_text Text k) ≡ false = refl in
    let no : true ≡ false = sym digits ∙ ap all_ascii_digits e ∙ none in
    cc

module _ (schema : SchemaParts) (constants : List (List ℕ)) (facts : List Ground) (names : Names) (are : AreNamesFor schema constants facts names) where
  labels : List ℕ
  labels = names.integers.labels ++ names.others.labels

  texts : List (List ℕ)
  texts = names.integers.texts ++ names.others.texts

  -- the text of a label that stands for an integer
  integer_text : (k : ℕ) → Contains names.integers.labels k → text_under names k ≡ text_in names.integers [] k
  integer_text k c =
      let (number, small, is) = numbered names.integers are.integers_are k c in
      is (text_in names.others [] k) ∙ sym (is [])

  -- and of one that stands for a text
  other_text : (k : ℕ) → Contains names.others.labels k → text_under names k ≡ text_in names.others [] k
  other_text k c =
      column_passes names.integers are.integers_are k (text_in names.others [] k)
      (λ d. ((are.others_are.exactly k).0 c).1 ((are.integers_are.exactly k).0 d))

  label_cases : (k : ℕ) → Contains labels k → Contains names.integers.labels k ⊎ Contains names.others.labels k
  unfolding labels
  label_cases k c = Contains-append_cases names.integers.labels names.others.labels k c

  mixed_apart : (j k : ℕ) → Contains names.integers.labels j → Contains names.others.labels k → text_under names j ≡ text_under names k → ⊥
  mixed_apart j k c d e =
      let (p, small, is) = numbered names.integers are.integers_are j c in
      let (q, low, same) = numbered names.others are.others_are k d in
      kinds_apart p q small (sym (is []) ∙ sym (integer_text j c) ∙ e ∙ other_text k d ∙ same [])

  text_apart : (j k : ℕ) → Contains labels j → Contains labels k → text_under names j ≡ text_under names k → j ≡ k
  text_apart j k c d e = ⊎_elim
      (λ a. ⊎_elim
      (λ b. column_apart names.integers are.integers_are j k [] a b (sym (integer_text j a) ∙ e ∙ integer_text k b))
      (λ b. absurd (mixed_apart j k a b e))
      (label_cases k d))
      (λ a. ⊎_elim
      (λ b. absurd (mixed_apart k j b a (sym e)))
      (λ b. column_apart names.others are.others_are j k [] a b (sym (other_text j a) ∙ e ∙ other_text k b))
      (label_cases k d))
      (label_cases j c)

  text_new : (k : ℕ) → Contains labels k → Contains constants (text_under names k) → ⊥
  text_new k c among = ⊎_elim
      (λ a. column_new names.integers are.integers_are k [] a (subst (Contains constants) (integer_text k a) among))
      (λ a. column_new names.others are.others_are k [] a (subst (Contains constants) (other_text k a) among))
      (label_cases k c)

  text_there : (k : ℕ) → Contains labels k → Contains texts (text_under names k)
  unfolding texts
  text_there k c = ⊎_elim
      (λ a. Contains-append_left names.integers.texts names.others.texts (text_under names k) (subst (Contains names.integers.texts) (sym (integer_text k a)) (column_there names.integers are.integers_are k [] a)))
      (λ a. Contains-append_right names.integers.texts names.others.texts (text_under names k) (subst (Contains names.others.texts) (sym (other_text k a)) (column_there names.others are.others_are k [] a)))
      (label_cases k c)

  -- a label that occurs stands for an integer or for a text
  label_named : (k : ℕ) → Contains (labels_in facts) k → Contains labels k
  unfolding labels
  label_named k c = ⊎_elim
      (λ (has : has_label names.integers.labels k ≡ true). Contains-append_left names.integers.labels names.others.labels k (label_there names.integers.labels k has))
      (λ (none : has_label names.integers.labels k ≡ false). Contains-append_right names.integers.labels names.others.labels k
      ((are.others_are.exactly k).1 (c, λ s. label_not_there names.integers.labels k none ((are.integers_are.exactly k).1 s))))
      (cases_Bool (has_label names.integers.labels k))

  -- all labels named: those that occur by their texts, the others by texts that are neither constants nor among these
  others : ℕ → List ℕ
  others = (naming_exists (constants ++ texts)).0

  pub named : ℕ → List ℕ
  named k = cond (has_label labels k) (text_under names k) (others k)

  named_there : (k : ℕ) → Contains labels k → named k ≡ text_under names k
  unfolding named
  named_there k c = ⊎_elim
      (λ (has : has_label labels k ≡ true). rw has refl)
      (λ (none : has_label labels k ≡ false). absurd (label_not_there labels k none c))
      (cases_Bool (has_label labels k))

  -- each label is there with its text, or has another text
  named_cases : (k : ℕ) → (Contains labels k × (named k ≡ text_under names k)) ⊎ (named k ≡ others k)
  unfolding named
  named_cases k = ⊎_elim
      (λ (has : has_label labels k ≡ true). inl (label_there labels k has, rw has refl))
      (λ (none : has_label labels k ≡ false). inr (rw none refl))
      (cases_Bool (has_label labels k))

  others_apart : (j k : ℕ) → others j ≡ others k → j ≡ k
  unfolding others
  others_apart j k e = ((naming_exists (constants ++ texts)).1 (j + k + 1)).differ j k (omega arith) (omega arith) e

  others_new : (k : ℕ) → Contains (constants ++ texts) (others k) → ⊥
  unfolding others
  others_new k c = ((naming_exists (constants ++ texts)).1 (k + 1)).new k (omega arith) c

  pub is_naming : (next : ℕ) → IsNaming constants next named
  is_naming next = record {
    differ = λ j k l m e. ⊎_elim
        (λ (c, is). ⊎_elim
        (λ (d, same). text_apart j k c d (sym is ∙ e ∙ same))
        (λ other. absurd (others_new k (Contains-append_right constants texts (others k) (subst (Contains texts) (sym is ∙ e ∙ other) (text_there j c)))))
        (named_cases k))
        (λ is. ⊎_elim
        (λ (d, same). absurd (others_new j (Contains-append_right constants texts (others j) (subst (Contains texts) (sym same ∙ sym e ∙ is) (text_there k d)))))
        (λ other. others_apart j k (sym is ∙ e ∙ other))
        (named_cases k))
        (named_cases j);
    new = λ k l c. ⊎_elim
        (λ (d, is). text_new k d (subst (Contains constants) is c))
        (λ is. others_new k (Contains-append_left constants texts (others k) (subst (Contains constants) is c)))
        (named_cases k);
  }

  integer_named : (k : ℕ) → Contains names.integers.labels k → Contains labels k
  unfolding labels
  integer_named k c = Contains-append_left names.integers.labels names.others.labels k c

  -- a label at an integer column is named by an integer
  pub names_integers : (some : List Ground) → ((fact : Ground) → Contains some fact → Contains facts fact) → NamesIntegers schema some named
  names_integers some within = λ fact place k among holds at.
      let c : Contains names.integers.labels k = (are.integers_are.exactly k).1 (fact, place, within fact among, holds, at) in
      let (number, small, is) = numbered names.integers are.integers_are k c in
      inl (number, small, named_there k (integer_named k c) ∙ integer_text k c ∙ is [])

  -- values whose labels occur have their texts
  same_values : (vals : List Val) → ((k : ℕ) → Contains vals (Label k) → Contains (labels_in facts) k) → map (image named) vals ≡ map (image (text_under names)) vals
  same_values vals occur = map_same (image named) (image (text_under names)) vals each
    where
      each : (v : Val) → Contains vals v → image named v ≡ image (text_under names) v
      each (Const c) inside = refl
      each (Label k) inside = named_there k (label_named k (occur k inside))

  pub same_head : (head : List Val) → ((k : ℕ) → Contains head (Label k) → Contains (labels_in facts) k) → map (image named) head ≡ map (image (text_under names)) head
  same_head head occur = same_values head occur

  pub same_facts : (some : List Ground) → ((fact : Ground) → Contains some fact → Contains facts fact) → renamed named some ≡ renamed (text_under names) some
  same_facts some within = map_same (fact_of named) (fact_of (text_under names)) some each
    where
      each : (fact : Ground) → Contains some fact → fact_of named fact ≡ fact_of (text_under names) fact
      each fact among =
          let row : map (image named) fact.vals ≡ map (image (text_under names)) fact.vals = same_values fact.vals (λ k inside. label_occurs facts fact k (within fact among) inside) in
          λ i. record { rel = fact.rel; row = row i }

-- a label of the head is one of a base fact
head_occurs : (schema : SchemaParts) (constants : List (List ℕ)) (query : Query) (proof : Proof) → QueryFits schema query → IsKept schema constants query proof → (k : ℕ) → Contains (frozen_head query) (Label k) → Contains (labels_in proof.base) k
head_occurs schema constants query proof fits kept k c =
    let (a, are, e) = kept.answered in
    let (term, among, is) = contains_mapped (value_of Const a) query.head (Label k) (subst (λ l. Contains l (Label k)) e c) in
    by a are term among is
  where
    by : (a : ℕ → Val) → AreFacts Const (GroundsOf proof.base) a query.atoms → (term : Term) → Contains query.head term → value_of Const a term ≡ Label k → Contains (labels_in proof.base) k
    by a are (Said t) among is = absurd (cc)
    by a are (Var x) among is =
        let (atom, there, occurs) = fits.head x among in
        label_occurs proof.base (record { rel = atom.rel; vals = map (value_of Const a) atom.terms }) k (are atom there)
        (subst (Contains (map (value_of Const a) atom.terms)) is (contains_map (value_of Const a) atom.terms (Var x) occurs))

pub stuck_refutes : (schema : SchemaParts) (constants : List (List ℕ)) (statement : Statement) (queries : List Query) (query : Query)
    (end : Proof) (pair : Witness) → RulesFit schema constants → StandFor schema queries statement → Contains queries query →
    ((q : Query) → Contains queries q → QueryHasConstants constants q) → QueryFits schema query → IsKept schema constants query end →
    IsStuck schema constants queries end (frozen_head query) → IsWitnessOf schema constants end.base end.copy (frozen_head query) pair →
    Refutes schema constants statement pair.first pair.second pair.answer
stuck_refutes schema constants statement queries query end pair rules stand among have fits kept stuck is =
    let all : List Ground = end.base ++ end.copy in
    let h : ℕ → List ℕ = named schema constants all is.names is.named in
    let refuted = witness_refutes schema constants statement queries query end h rules stand among have kept stuck
    (is_naming schema constants all is.names is.named end.next) in
    let first : renamed h end.base ≡ pair.first =
    same_facts schema constants all is.names is.named end.base (λ fact c. Contains-append_left end.base end.copy fact c) ∙ sym is.first_is in
    let second : renamed h end.copy ≡ pair.second =
    same_facts schema constants all is.names is.named end.copy (λ fact c. Contains-append_right end.base end.copy fact c) ∙ sym is.second_is in
    let head : map (image h) (frozen_head query) ≡ pair.answer = same_head schema constants all is.names is.named (frozen_head query)
    (λ k c. more_labels end.base end.copy k (head_occurs schema constants query end fits kept k c)) ∙ sym is.answer in
    subst (λ row. Refutes schema constants statement pair.first pair.second row) head
    (subst (λ facts. Refutes schema constants statement pair.first facts (map (image h) (frozen_head query))) second
    (subst (λ facts. Refutes schema constants statement facts (renamed h end.copy) (map (image h) (frozen_head query))) first refuted))

-- and where the facts are sorted, so are the instances
pub witness_sorted : (schema : SchemaParts) (constants : List (List ℕ)) (base copy : List Ground) (head : List Val) (pair : Witness) →
    AreSortedGrounds schema base → AreSortedGrounds schema copy → IsWitnessOf schema constants base copy head pair →
    AreSortedFacts schema pair.first × AreSortedFacts schema pair.second
witness_sorted schema constants base copy head pair base_sorted copy_sorted is =
    let all : List Ground = base ++ copy in
    let h : ℕ → List ℕ = named schema constants all is.names is.named in
    let of_base : (fact : Ground) → Contains base fact → Contains all fact = λ fact c. Contains-append_left base copy fact c in
    let of_copy : (fact : Ground) → Contains copy fact → Contains all fact = λ fact c. Contains-append_right base copy fact c in (
      subst (AreSortedFacts schema) (same_facts schema constants all is.names is.named base of_base ∙ sym is.first_is)
          (renamed_sorted schema h base base_sorted (names_integers schema constants all is.names is.named base of_base)),
      subst (AreSortedFacts schema) (same_facts schema constants all is.names is.named copy of_copy ∙ sym is.second_is)
          (renamed_sorted schema h copy copy_sorted (names_integers schema constants all is.names is.named copy of_copy)),
    )

-- and its answer is the query's on the first instance
pub stuck_answer : (schema : SchemaParts) (constants : List (List ℕ)) (query : Query) (end : Proof) (pair : Witness) → QueryFits schema query →
    IsKept schema constants query end → IsWitnessOf schema constants end.base end.copy (frozen_head query) pair →
    AnswersQuery query pair.first pair.answer
stuck_answer schema constants query end pair fits kept is =
    let all : List Ground = end.base ++ end.copy in
    let h : ℕ → List ℕ = named schema constants all is.names is.named in
    let first : renamed h end.base ≡ pair.first =
    same_facts schema constants all is.names is.named end.base (λ fact c. Contains-append_left end.base end.copy fact c) ∙ sym is.first_is in
    let head : map (image h) (frozen_head query) ≡ pair.answer = same_head schema constants all is.names is.named (frozen_head query)
    (λ k c. more_labels end.base end.copy k (head_occurs schema constants query end fits kept k c)) ∙ sym is.answer in
    subst (λ row. AnswersQuery query pair.first row) head
    (subst (λ facts. AnswersQuery query facts (map (image h) (frozen_head query))) first
    (answer_renamed constants end.next h (is_naming schema constants all is.names is.named end.next) end.base kept.base_named query (frozen_head query) kept.answered))

pub witnesses_refute : (schema : SchemaParts) (constants : List (List ℕ)) (statement : Statement) (queries : List Query) (query : Query)
    (log : List Firing) (end : Proof) (pair : Witness) → RulesFit schema constants → StandFor schema queries statement →
    Contains queries query → ((q : Query) → Contains queries q → QueryHasConstants constants q) → QueryFits schema query →
    IsRun schema constants 0 (opening query) log end → IsStuck schema constants queries end (frozen_head query) →
    IsWitnessOf schema constants end.base end.copy (frozen_head query) pair →
    Refutes schema constants statement pair.first pair.second pair.answer
witnesses_refute schema constants statement queries query log end pair rules stand among have fits run stuck is =
    let kept : IsKept schema constants query end =
    kept_run schema constants query 0 (opening query) log end rules (kept_opening schema constants query fits (have query among)) run in
    stuck_refutes schema constants statement queries query end pair rules stand among have fits kept stuck is

-- and so are those of a run from the opening proof of a query with sorted atoms
pub witnesses_sorted : (schema : SchemaParts) (constants : List (List ℕ)) (query : Query) (log : List Firing) (end : Proof) (pair : Witness) →
    AreNumbered schema.rules → AreSortedRules schema → AtomsAreSorted schema query.atoms → IsRun schema constants 0 (opening query) log end →
    IsWitnessOf schema constants end.base end.copy (frozen_head query) pair →
    AreSortedFacts schema pair.first × AreSortedFacts schema pair.second
witnesses_sorted schema constants query log end pair numbered rules atoms run is =
    let sorted : ProofIsSorted schema end =
    proof_sorted schema constants 0 (opening query) log end numbered rules (opening_sorted schema query atoms) run in
    witness_sorted schema constants end.base end.copy (frozen_head query) pair sorted.base sorted.copy is
