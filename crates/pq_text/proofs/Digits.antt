-- Numbers and their digits.
use Rattle.std.proofs.Common.{◌≡◌, ℕ, ◌+◌, ◌-◌, ◌*◌, ◌^◌, ◌<◌, ◌≤◌, ◌/◌, ◌%◌, Bool, true, false, List, [], ◌∷◌, ◌++◌, length, min, refl, sym, ap, ◌∙◌, arith, append_assoc}
use Rattle.std.specs.Prelude.{nat_le}
use Rattle.std.specs.Fmt.{decimal}
use Rattle.std.proofs.Math.Nat.{min-eq_left, min-eq_right, min-le_right}
use Rattle.std.proofs.lemmas.Bool.{leb-true, leb-false}
use Rattle.std.proofs.lemmas.Fmt.{decimal_digit, decimal_step}
use Rattle.lists.specs.Digits.{value_from}
use Rattle.lists.proofs.Digits.{value_ge}
use Rattle.pq_text.specs.Numbers.{value_of}
pub use Rattle.lists.proofs.Digits.{decimal_value}

-- ---- values up to a limit

-- the value, kept up to the limit at each digit
abbrev pub capped_from : ℕ → ℕ → List ℕ → ℕ
capped_from limit n [] = n
capped_from limit n (d ∷ ds) = capped_from limit (min (n * 10 + (d - 48)) limit) ds

cap_case : (limit m : ℕ) (ds : List ℕ) (t : Bool) → nat_le m limit ≡ t → min (value_from (min m limit) ds) limit ≡ min (value_from m ds) limit
cap_case limit m ds true e = ap (λ (n : ℕ). min (value_from n ds) limit) (min-eq_left (leb-true m limit e))
cap_case limit m ds false e =
    let over : limit < m = leb-false m limit e in
    let small : limit ≤ value_from limit ds = value_ge ds limit in
    let large : m ≤ value_from m ds = value_ge ds m in
    let past : limit ≤ value_from m ds = omega arith in
    let le : limit ≤ m = omega arith in
    ap (λ (n : ℕ). min (value_from n ds) limit) (min-eq_right le) ∙ min-eq_right small ∙ sym (min-eq_right past)

capped_is : (limit : ℕ) (ds : List ℕ) (n : ℕ) → n ≤ limit → capped_from limit n ds ≡ min (value_from n ds) limit
capped_is limit [] n le = sym (min-eq_left le)
capped_is limit (d ∷ ds) n le =
    let m = n * 10 + (d - 48) in
    capped_is limit ds (min m limit) (min-le_right m limit) ∙ cap_case limit m ds (nat_le m limit) refl

pub value_capped : (limit : ℕ) (ds left : List ℕ) (value : ℕ) → length left < 1 → capped_from limit 0 ds ≡ capped_from limit value left → value ≡ min (value_of ds) limit
value_capped limit ds [] value none so_far = sym so_far ∙ capped_is limit ds 0 (omega arith)
value_capped limit ds (d ∷ left) value none so_far = absurd (omega arith)

-- ---- printing

pub print_last : (old new : List ℕ) (n : ℕ) → n < 10 → new ≡ old ++ (48 + n) ∷ [] → new ≡ old ++ decimal n
print_last old new n low pushed = pushed ∙ ap (λ (ds : List ℕ). old ++ ds) (sym (decimal_digit n low))

pub print_more : (old mid new : List ℕ) (n : ℕ) → 10 ≤ n → n < 2 ^ 64 → mid ≡ old ++ decimal (n / 10) → new ≡ mid ++ (48 + n % 10) ∷ [] → new ≡ old ++ decimal n
print_more old mid new n high fits front pushed =
    pushed ∙ ap (λ (ds : List ℕ). ds ++ (48 + n % 10) ∷ []) front ∙ append_assoc old (decimal (n / 10)) ((48 + n % 10) ∷ []) ∙ ap (λ (ds : List ℕ). old ++ ds) (sym (decimal_step n high fits))
