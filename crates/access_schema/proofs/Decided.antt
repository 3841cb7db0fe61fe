-- Whether a value is an integer, and a column one of integers, is decided; so is whether a rule is sorted. Crates above cite these lemmas.
use Rattle.std.proofs.Common.{◌≡◌, ◌⊎◌, ◌∙◌, ◌<◌, ◌≤◌, ◌-◌, ◌^◌, sym, ap, ℕ, zero, suc, List, [], ◌∷◌, ◌++◌, true, false, refl, arith, Option, Some, None, slice_get, inl, inr, ⊎_elim}
use Rattle.std.specs.Prelude.{codes}
use Rattle.std.specs.Fmt.{decimal}
use Rattle.std.specs.Str.{all_ascii_digits}
use Rattle.std.proofs.lemmas.Bool.{cases_Bool, cases_eq, cases_lt}
use Rattle.std.proofs.lemmas.Grind.{not_there}
use Rattle.meaning.specs.declared.types.Relation.{Relation}
use Rattle.meaning.specs.declared.types.Rule.{Rule}
use Rattle.meaning.specs.declared.types.Sort.{Sort}
use Rattle.meaning.specs.declared.types.Sort.TheVariants.{Text, Int}
use Rattle.meaning.specs.declared.types.SchemaParts.{SchemaParts}
use Rattle.meaning.specs.Integers.{IsInteger}
use Rattle.meaning.specs.Sorts.{HoldsIntegers, RuleIsSorted}
use Rattle.lists.specs.Digits.{value_from, begins_plain}
use Rattle.lists.proofs.Members.{head_is, tail_is, some_injective}
use Rattle.lists.proofs.Digits.{decimal_digits, decimal_value, plain_decimal, not_plain, not_within}

decimal_or_not : (ds : List ℕ) (limit : ℕ) → limit < 2 ^ 64 → ((n : ℕ) × (n ≤ limit) × (ds ≡ decimal n)) ⊎ ((n : ℕ) → n ≤ limit → ds ≡ decimal n → ⊥)
decimal_or_not ds limit fits = ⊎_elim
    (λ (plain : begins_plain ds ≡ true). ⊎_elim
    (λ (digits : all_ascii_digits ds ≡ true). ⊎_elim
    (λ past. inr (λ n low is. not_within ds n limit fits low (λ _. past) is))
    (λ within. inl (value_from 0 ds, within, plain_decimal ds (value_from 0 ds) (omega arith) plain digits refl))
    (cases_lt limit (value_from 0 ds)))
    (λ (other : all_ascii_digits ds ≡ false). inr (λ n low is.
    let digits = decimal_digits n (omega arith) in
    let same : all_ascii_digits ds ≡ true = ap all_ascii_digits is ∙ digits in
    cc))
    (cases_Bool (all_ascii_digits ds)))
    (λ (other : begins_plain ds ≡ false). inr (λ n low is. not_plain ds n (omega arith) other is))
    (cases_Bool (begins_plain ds))

-- a number with a sign
abbrev IsNegative : List ℕ → Type 0
IsNegative value = (n : ℕ) × (1 ≤ n) × (n ≤ 2 ^ 63) × (value ≡ codes "-" ++ decimal n)

digits_or_not : (ds : List ℕ) → IsNegative (45 ∷ ds) ⊎ (IsNegative (45 ∷ ds) → ⊥)
digits_or_not ds = ⊎_elim
    (λ (n, low, is). some n low is)
    (λ none. inr (λ (n, low, high, is). none n high (tail_is 45 45 ds (decimal n) is)))
    (decimal_or_not ds (2 ^ 63) (omega arith)) where
      some : (n : ℕ) → n ≤ 2 ^ 63 → ds ≡ decimal n → IsNegative (45 ∷ ds) ⊎ (IsNegative (45 ∷ ds) → ⊥)
      some zero low is = inr (λ (n, some, high, same).
          let one = decimal_value 0 (omega arith) in
          let other = decimal_value n (omega arith) in
          let both : value_from 0 (decimal n) ≡ value_from 0 (decimal 0) = ap (value_from 0) (sym (tail_is 45 45 ds (decimal n) same) ∙ is) in
          omega arith)
      some (suc n) low is = inl (suc n, omega arith, low, ap (λ rest. 45 ∷ rest) is)

negative_or_not : (value : List ℕ) → IsNegative value ⊎ (IsNegative value → ⊥)
negative_or_not [] = inr (λ (n, some, low, is). absurd (cc))
negative_or_not (b ∷ ds) = ⊎_elim
    (λ (sign : b ≡ 45). rw sign (digits_or_not ds))
    (λ other. inr (λ (n, some, low, is). other (head_is b 45 ds (decimal n) is)))
    (cases_eq b 45)

pub integer_or_not : (value : List ℕ) → IsInteger value ⊎ (IsInteger value → ⊥)
integer_or_not value = ⊎_elim
    (λ (n, low, is). inl (inl (n, omega arith, is)))
    (λ none. ⊎_elim
    (λ negative. inl (inr negative))
    (λ other. inr (λ is. ⊎_elim (λ (n, low, same). none n (omega arith) same) other is))
    (negative_or_not value))
    (decimal_or_not value (2 ^ 63 - 1) (omega arith))

module _ (schema : SchemaParts) (rel place : ℕ) where
  by_sort : (relation : Relation) → slice_get schema.relations rel ≡ Some relation → (found : Option Sort) → slice_get relation.sorts place ≡ found → HoldsIntegers schema rel place ⊎ (HoldsIntegers schema rel place → ⊥)
  by_sort relation there (Some Int) own = inl (relation, there, own)
  by_sort relation there (Some Text) own = inr (λ (other, at, int).
      let same : slice_get relation.sorts place ≡ Some Int = ap (λ (r : Relation). slice_get r.sorts place) (some_injective relation other (sym there ∙ at)) ∙ int in
      cc)
  by_sort relation there None own = inr (λ (other, at, int).
      let same : slice_get relation.sorts place ≡ Some Int = ap (λ (r : Relation). slice_get r.sorts place) (some_injective relation other (sym there ∙ at)) ∙ int in
      cc)

  by_relation : (found : Option Relation) → slice_get schema.relations rel ≡ found → HoldsIntegers schema rel place ⊎ (HoldsIntegers schema rel place → ⊥)
  by_relation (Some relation) is = by_sort relation is (slice_get relation.sorts place) refl
  by_relation None is = inr (λ (other, at, int). cc)

  pub integers_or_not : HoldsIntegers schema rel place ⊎ (HoldsIntegers schema rel place → ⊥)
  integers_or_not = by_relation (slice_get schema.relations rel) refl

-- what a schema keeps of a rule is that it is sorted
pub sorted_had : (schema : SchemaParts) (rule : Rule) → ∥ RuleIsSorted schema rule ∥₁ → RuleIsSorted schema rule
sorted_had schema rule had = record {
  constants = λ atom there place c holds at. ⊎_elim
      (λ is. is)
      (λ other. absurd (not_there had (λ sorted. other (sorted.constants atom there place c holds at))))
      (integer_or_not c);
  variables = λ x p q one other in_one in_other at_one at_other holds. ⊎_elim
      (λ is. is)
      (λ none. absurd (not_there had (λ sorted. none (sorted.variables x p q one other in_one in_other at_one at_other holds))))
      (integers_or_not schema other.rel q);
}

-- schemas with the same relations have the same sorted rules
pub sorted_along : (first second : SchemaParts) (rule : Rule) → first.relations ≡ second.relations → RuleIsSorted first rule → RuleIsSorted second rule
sorted_along first second rule same sorted = record {
  constants = λ atom there place c holds at. sorted.constants atom there place c (back atom.rel place holds) at;
  variables = λ x p q one other in_one in_other at_one at_other holds.
      let (relation, at, int) = sorted.variables x p q one other in_one in_other at_one at_other (back one.rel p holds) in
      (relation, ap (λ (rs : List Relation). slice_get rs other.rel) (sym same) ∙ at, int);
} where
  back : (rel place : ℕ) → HoldsIntegers second rel place → HoldsIntegers first rel place
  back rel place (relation, at, int) = (relation, ap (λ (rs : List Relation). slice_get rs rel) same ∙ at, int)
