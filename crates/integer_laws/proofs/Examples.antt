-- What the definitions say of items.
use Rattle.std.proofs.Common.{◌≡◌, ◌∙◌, ℕ, zero, suc, ◌<◌, List, [], ◌∷◌, Some, true, false, refl, sym, ap, subst, inl, inr, arith}
use Rattle.std.specs.Prelude.{Contains, slice_get, codes}
use Rattle.std.specs.Fmt.{decimal}
use Rattle.std.proofs.lemmas.Fmt.{decimal_digit}
use Rattle.std.specs.Str.{all_ascii_digits}
use Rattle.lists.specs.Digits.{begins_plain}
use Rattle.lists.proofs.Digits.{decimal_digits, decimal_plain}
use Rattle.lists.proofs.Members.{contains_here, contains_there, contains_one, head_is, some_injective}
use Rattle.meaning.specs.declared.types.Atom.{Atom}
use Rattle.meaning.specs.declared.types.Term.TheVariants.{Var}
use Rattle.meaning.specs.declared.types.Fact.{Fact}
use Rattle.meaning.specs.declared.types.Ground.{Ground}
use Rattle.meaning.specs.declared.types.Relation.{Relation}
use Rattle.meaning.specs.declared.types.SchemaParts.{SchemaParts}
use Rattle.meaning.specs.declared.types.Sort.TheVariants.{Int, Text}
use Rattle.meaning.specs.declared.types.Val.{Val}
use Rattle.meaning.specs.declared.types.Val.TheVariants.{Const, Label}
use Rattle.meaning.specs.Values.{Value}
use Rattle.meaning.specs.Integers.{IsInteger}
use Rattle.meaning.specs.Sorts.{HoldsIntegers}
use Rattle.integer_laws.specs.Sorted.{AreSortedFacts, AreSortedGrounds, NamesIntegers, AreSortedRules}
use Rattle.integer_laws.specs.Items.{item_relation, items, swap, item, labelled_item}

-- the first column alone holds integers
first_holds : (schema : SchemaParts) → schema.relations ≡ item_relation ∷ [] → HoldsIntegers schema 0 0
first_holds schema e = (item_relation, ap (λ rs. slice_get rs 0) e, refl)

only_first : (place : ℕ) → HoldsIntegers items 0 place → place ≡ 0
only_first place (relation, at, holds) =
    by place (subst (λ (r : Relation). slice_get r.sorts place ≡ Some Int) (sym (some_injective item_relation relation at)) holds)
  where
    text_int : Text ≡ Int → ⊥
    text_int e = cc

    by : (place : ℕ) → slice_get (Int ∷ Text ∷ []) place ≡ Some Int → place ≡ 0
    by zero e = refl
    by (suc zero) e = absurd (text_int (some_injective Text Int e))
    by (suc (suc place)) e = absurd (cc)

false_true : false ≡ true → ⊥
false_true e = cc

-- what is no sign and no digits is no integer
no_integer : (b : ℕ) (text : List ℕ) → (45 ≡ b → ⊥) → (all_ascii_digits (b ∷ text) ≡ false) → IsInteger (b ∷ text) → ⊥
no_integer b text unsigned none (inl (n, low, is)) = false_true (sym none ∙ ap all_ascii_digits is ∙ decimal_digits n (omega arith))
no_integer b text unsigned none (inr (n, some, low, is)) = unsigned (sym (head_is b 45 text (decimal n) is))

lower : (m n : ℕ) → n < m → m ≡ n → ⊥
lower m n less e = omega arith

no_plain : (text : List ℕ) → (begins_plain (48 ∷ text) ≡ false) → IsInteger (48 ∷ text) → ⊥
no_plain text none (inl (n, low, is)) = false_true (sym none ∙ ap begins_plain is ∙ decimal_plain n (omega arith))
no_plain text none (inr (n, some, low, is)) = lower 48 45 (omega arith) (head_is 48 45 text (decimal n) is)

-- what stands at the integer column of an item is its number
number_at : {V : Type 0} (number word v : V) (place : ℕ) → HoldsIntegers items 0 place →
    slice_get (number ∷ word ∷ []) place ≡ Some v → number ≡ v
number_at number word v place holds at =
    some_injective number v (subst (λ p. slice_get (number ∷ word ∷ []) p ≡ Some v) (only_first place holds) at)

number_of : (number word v : Val) (fact : Ground) (place : ℕ) → Contains (labelled_item number word ∷ []) fact →
    HoldsIntegers items fact.rel place → slice_get fact.vals place ≡ Some v → number ≡ v
number_of number word v fact place c =
    subst (λ (f : Ground). HoldsIntegers items f.rel place → slice_get f.vals place ≡ Some v → number ≡ v)
    (contains_one (labelled_item number word) fact c) (number_at number word v place)

label_const : (k : ℕ) (c : Value) → Label k ≡ Const c → ⊥
label_const k c e = cc

const_label : (c : Value) (k : ℕ) → Const c ≡ Label k → ⊥
const_label c k e = cc

pub seven_is_sorted : AreSortedFacts items (item (codes "7") (codes "x") ∷ [])
seven_is_sorted fact c place value =
    subst (λ (f : Fact). HoldsIntegers items f.rel place → slice_get f.row place ≡ Some value → IsInteger value)
    (contains_one (item (codes "7") (codes "x")) fact c)
    (λ holds at. subst IsInteger (number_at (codes "7") (codes "x") value place holds at)
    (inl (7, omega arith, sym (decimal_digit 7 (omega arith)))))

-- the number of a sorted item is an integer
is_number : (number word : Value) → AreSortedFacts items (item number word ∷ []) → IsInteger number
is_number number word sorted =
    sorted (item number word) (contains_here (item number word) []) 0 number (first_holds items refl) refl

pub word_is_not_sorted : AreSortedFacts items (item (codes "x") (codes "7") ∷ []) → ⊥
word_is_not_sorted sorted = no_integer 120 [] (λ e. omega arith) refl (is_number (codes "x") (codes "7") sorted)

pub leading_zero_is_not_sorted : AreSortedFacts items (item (codes "07") (codes "x") ∷ []) → ⊥
leading_zero_is_not_sorted sorted = no_plain (55 ∷ []) refl (is_number (codes "07") (codes "x") sorted)

pub label_is_sorted : AreSortedGrounds items (labelled_item (Label 0) (Label 0) ∷ [])
label_is_sorted fact c place value holds at =
    absurd (label_const 0 value (number_of (Label 0) (Label 0) (Const value) fact place c holds at))

pub labelled_word_is_not_sorted : AreSortedGrounds items (labelled_item (Const (codes "x")) (Label 0) ∷ []) → ⊥
labelled_word_is_not_sorted sorted =
    let fact : Ground = labelled_item (Const (codes "x")) (Label 0) in
    no_integer 120 [] (λ e. omega arith) refl
    (sorted fact (contains_here fact []) 0 (codes "x") (first_holds items refl) refl)

pub word_names_no_integer : NamesIntegers items (labelled_item (Label 0) (Const (codes "x")) ∷ []) (λ k. codes "_1") → ⊥
word_names_no_integer named =
    let fact : Ground = labelled_item (Label 0) (Const (codes "x")) in
    no_integer 95 (49 ∷ []) (λ e. omega arith) refl (named fact 0 0 (contains_here fact []) (first_holds items refl) refl)

pub word_names_a_word : NamesIntegers items (labelled_item (Const (codes "7")) (Label 0) ∷ []) (λ k. codes "_1")
word_names_a_word fact place k c holds at =
    absurd (const_label (codes "7") k (number_of (Const (codes "7")) (Label 0) (Label k) fact place c holds at))

pub swap_is_not_sorted : AreSortedRules (record items { rules = swap ∷ [] }) → ⊥
swap_is_not_sorted sorted =
    let body : Atom = record { rel = 0; terms = Var 0 ∷ Var 1 ∷ [] } in
    let head : Atom = record { rel = 0; terms = Var 1 ∷ Var 0 ∷ [] } in
    lower 1 0 (omega arith) (only_first 1 ((sorted swap (contains_here swap [])).variables 0 0 1 body head
    (contains_here body (head ∷ [])) (contains_there body (head ∷ []) head (contains_here head [])) refl refl
    (first_holds items refl)))
