-- A text is an integer in one way, and a column holds integers in one way: so what a schema keeps, it keeps in one way.
use Rattle.std.proofs.Common.{◌≡◌, ◌⊎◌, ℕ, ◌<◌, ◌≤◌, ◌^◌, List, [], ◌∷◌, ◌++◌, slice_get, get_or, Option, None, Some, inl, inr, sym, ap, ◌∙◌, arith, ⊎_elim}
use Rattle.std.specs.Prelude.{codes}
use Rattle.std.specs.Fmt.{decimal}
use Rattle.std.proofs.Props.{props}
use Rattle.std.proofs.lemmas.Bool.{cases_lt}
use Rattle.std.proofs.lemmas.Fmt.{decimal_digit, decimal_injective, first_decimal}
use mathlib.Core.HLevel.{is_prop→PathP}
use Rattle.lists.proofs.Members.{some_injective, tail_is}
use Rattle.meaning.specs.declared.types.Relation.{Relation}
use Rattle.meaning.specs.declared.types.Sort.TheVariants.{Int}
use Rattle.meaning.specs.Values.{Value}
use Rattle.meaning.specs.Integers.{IsInteger}

-- a number has no sign
no_sign : (n : ℕ) (ds : List ℕ) → n < 2 ^ 63 → decimal n ≡ 45 ∷ ds → ⊥
no_sign n ds low is =
    let sign : get_or (decimal n) 0 0 ≡ 45 = ap (λ (bs : List ℕ). get_or bs 0 0) is in
    ⊎_elim
    (λ (none : n < 1).
    let zero_is : n ≡ 0 = omega (arith, none) in
    let first : get_or (decimal n) 0 0 ≡ 48 = ap (λ (bs : List ℕ). get_or bs 0 0) (ap decimal zero_is ∙ decimal_digit 0 (omega arith)) in
    omega (arith, sign, first))
    (λ (some : 1 ≤ n). let first = first_decimal n some (omega (arith, low)) in omega (arith, sign, first))
    (cases_lt n 1)

pub integer_once : (c : Value) (x y : IsInteger c) → x ≡ y
integer_once c (inl x) (inl y) =
    let n : x.0 ≡ y.0 = decimal_injective x.0 y.0 (let a = x.1 in omega (arith, a)) (let b = y.1 in omega (arith, b)) (sym x.2 ∙ y.2) in
    λ i. inl (n i, is_prop→PathP (λ j. n j < 2 ^ 63) (λ j. hlevel props) x.1 y.1 i, is_prop→PathP (λ j. c ≡ decimal (n j)) (λ j. hlevel props) x.2 y.2 i)
integer_once c (inl x) (inr y) = absurd (no_sign x.0 (decimal y.0) x.1 (sym x.2 ∙ y.3))
integer_once c (inr x) (inl y) = absurd (no_sign y.0 (decimal x.0) y.1 (sym y.2 ∙ x.3))
integer_once c (inr x) (inr y) =
    let same : decimal x.0 ≡ decimal y.0 = tail_is 45 45 (decimal x.0) (decimal y.0) (sym x.3 ∙ y.3) in
    let n : x.0 ≡ y.0 = decimal_injective x.0 y.0 (let a = x.2 in omega (arith, a)) (let b = y.2 in omega (arith, b)) same in
    λ i. inr (n i, is_prop→PathP (λ j. 1 ≤ n j) (λ j. hlevel props) x.1 y.1 i, is_prop→PathP (λ j. n j ≤ 2 ^ 63) (λ j. hlevel props) x.2 y.2 i, is_prop→PathP (λ j. c ≡ 45 ∷ decimal (n j)) (λ j. hlevel props) x.3 y.3 i)

pub holding_once : (relations : List Relation) (rel place : ℕ) (x y : (relation : Relation) × (slice_get relations rel ≡ Some relation) × (slice_get relation.sorts place ≡ Some Int)) → x ≡ y
holding_once relations rel place x y =
    let r : x.0 ≡ y.0 = some_injective x.0 y.0 (sym x.1 ∙ y.1) in
    λ i. (r i, is_prop→PathP (λ j. slice_get relations rel ≡ Some (r j)) (λ j. hlevel props) x.1 y.1 i, is_prop→PathP (λ j. slice_get (r j).sorts place ≡ Some Int) (λ j. hlevel props) x.2 y.2 i)
