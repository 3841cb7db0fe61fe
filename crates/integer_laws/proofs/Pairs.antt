-- Pairs of values as values. A value that two states share is paired with itself, and every other pair is a label of its
-- own, from which both are read back.
use Rattle.std.proofs.Common.{◌≡◌, ◌⊎◌, ℕ, suc, ◌+◌, ◌-◌, ◌*◌, ◌/◌, ◌%◌, ◌<◌, ◌≤◌, List, [], ◌∷◌, length, refl, sym, ap, ◌∙◌, subst, inl, inr, ⊎_elim, arith}
use mathlib.Core.List.{List-discrete}
use Rattle.std.proofs.Math.Decide.{ℕ_discrete}
use Rattle.std.proofs.Math.Nat.{mul-le-mul_right}
use Rattle.std.proofs.lemmas.Bool.{cases_lt}
use Rattle.std.proofs.lemmas.Nat.{div-mul-add, mod-mul-add}
use Rattle.std.specs.Prelude.{Contains, slice_index_or}
use Rattle.lists.proofs.Members.{contains_cases, contains_none}
use Rattle.meaning_laws.proofs.Deciding.{Val-discrete}
use Rattle.meaning_laws.proofs.Joined.{joined_below, joined_above}
use Rattle.meaning.specs.declared.types.Val.{Val}
use Rattle.meaning.specs.declared.types.Val.TheVariants.{Const, Label}
use Rattle.meaning.specs.Values.{Value}
use Rattle.meaning.specs.Triggers.{joined}
use Rattle.meaning.specs.Naming.{IsNamed}

-- where a constant stands in the list
place_of : List Value → Value → ℕ
place_of [] c = 0
place_of (first ∷ constants) c =
    elim (List-discrete ℕ_discrete first c) [ yes e ↦ 0 | no n ↦ suc (place_of constants c) ]

place_is : (constants : List Value) (c : Value) → Contains constants c →
    (place_of constants c < length constants) × (slice_index_or constants (place_of constants c) [] ≡ c)
unfolding place_of
place_is [] c among = absurd (contains_none c among)
place_is (first ∷ constants) c among =
    elim (List-discrete ℕ_discrete first c) as (λ d.
    let k : ℕ = elim d as (λ x. ℕ) [ yes e ↦ 0 | no n ↦ suc (place_of constants c) ] in
    (k < length (first ∷ constants)) × (slice_index_or (first ∷ constants) k [] ≡ c)) [
      | yes e ↦ (omega arith, e)
      | no n ↦
          let (low, is) = place_is constants c
          (⊎_elim (λ e. absurd (n e)) (λ h. h) (contains_cases first constants c among)) in
          (omega arith, is)
    ]

module _ (constants : List Value) where
  -- the number of a value with a name: that of a label, or one behind all labels
  abbrev code : ℕ → Val → ℕ
  code next (Label k) = k
  code next (Const c) = next + place_of constants c

  -- the value of a number
  abbrev decode : ℕ → ℕ → Val
  decode next = joined next Label (λ i. Const (slice_index_or constants i []))

  code_below : (next : ℕ) (v : Val) → IsNamed constants next v → code next v < next + length constants
  code_below next (Label k) named = omega arith
  code_below next (Const c) named = let low = (place_is constants c named).0 in omega arith

  decode_code : (next : ℕ) (v : Val) → IsNamed constants next v → decode next (code next v) ≡ v
  decode_code next (Label k) named = joined_below next Label (λ i. Const (slice_index_or constants i [])) k named
  decode_code next (Const c) named =
      joined_above next Label (λ i. Const (slice_index_or constants i [])) (place_of constants c)
      ∙ ap Const (place_is constants c named).1

module _ (constants : List Value) (next most less : ℕ) where
  abbrev width : ℕ
  width = less + length constants

  -- behind all labels of pairs
  abbrev pub top : ℕ
  top = next + (most + length constants) * width

  abbrev mixed : Val → Val → Val
  mixed v w = Label (next + (code constants most v * width + code constants less w))

  -- a value is shared where it is a constant, or a label below the next one
  abbrev pub IsShared : Val → Type 0
  IsShared (Const c) = Unit {0}
  IsShared (Label k) = k < next

  abbrev or_mixed : Val → Val → Val
  or_mixed (Const c) other = Const c
  or_mixed (Label k) other = joined next Label (λ i. other) k

  pub pair : Val → Val → Val
  pair v w = elim (Val-discrete v w) [ yes e ↦ or_mixed v (mixed v w) | no n ↦ mixed v w ]

  pub first_of : Val → Val
  first_of (Const c) = Const c
  first_of (Label k) = joined next Label (λ i. decode constants most (i / width)) k

  pub second_of : Val → Val
  second_of (Const c) = Const c
  second_of (Label k) = joined next Label (λ i. decode constants less (i % width)) k

  pub first_const : (c : Value) → first_of (Const c) ≡ Const c
  unfolding first_of
  first_const c = refl

  pub second_const : (c : Value) → second_of (Const c) ≡ Const c
  unfolding second_of
  second_const c = refl

  pub first_shared : (v : Val) → IsShared v → first_of v ≡ v
  unfolding first_of
  first_shared (Const c) is = refl
  first_shared (Label k) is = joined_below next Label (λ i. decode constants most (i / width)) k is

  pub second_shared : (v : Val) → IsShared v → second_of v ≡ v
  unfolding second_of
  second_shared (Const c) is = refl
  second_shared (Label k) is = joined_below next Label (λ i. decode constants less (i % width)) k is

  above_is : (k : ℕ) (other : Val) → next ≤ k → joined next Label (λ i. other) k ≡ other
  above_is k other low =
      let split : next + (k - next) ≡ k = omega arith in
      ap (joined next Label (λ i. other)) (sym split) ∙ joined_above next Label (λ i. other) (k - next)

  -- a pair is the shared value, or a label of its own
  pair_cases : (v w : Val) → ((v ≡ w) × IsShared v × (pair v w ≡ v)) ⊎ (pair v w ≡ mixed v w)
  unfolding pair
  pair_cases v w =
      elim (Val-discrete v w) as (λ d.
      let p : Val = elim d as (λ x. Val) [ yes e ↦ or_mixed v (mixed v w) | no n ↦ mixed v w ] in
      ((v ≡ w) × IsShared v × (p ≡ v)) ⊎ (p ≡ mixed v w)) [ yes e ↦ shared v e | no n ↦ inr refl ]
    where
      shared : (u : Val) → u ≡ w → ((u ≡ w) × IsShared u × (or_mixed u (mixed v w) ≡ u)) ⊎ (or_mixed u (mixed v w) ≡ mixed v w)
      shared (Const c) e = inl (e, tt, refl)
      shared (Label k) e =
          ⊎_elim (λ l. inl (e, l, joined_below next Label (λ i. mixed v w) k l)) (λ l. inr (above_is k (mixed v w) l))
          (cases_lt k next)

  -- a shared value is paired with itself
  pub pair_shared : (v : Val) → IsShared v → pair v v ≡ v
  unfolding pair
  pair_shared v is =
      elim (Val-discrete v v) as (λ d.
      (elim d as (λ x. Val) [ yes e ↦ or_mixed v (mixed v v) | no n ↦ mixed v v ]) ≡ v) [
        | yes e ↦ itself v is
        | no n ↦ absurd (n refl)
      ]
    where
      itself : (u : Val) → IsShared u → or_mixed u (mixed v v) ≡ u
      itself (Const c) is = refl
      itself (Label k) is = joined_below next Label (λ i. mixed v v) k is

  module _ (v w : Val) (named : IsNamed constants most v) (others : IsNamed constants less w) where
    first_mixed : first_of (mixed v w) ≡ v
    unfolding first_of
    first_mixed =
        joined_above next Label (λ i. decode constants most (i / width))
        (code constants most v * width + code constants less w)
        ∙ ap (decode constants most)
        (div-mul-add (code constants most v) width (code constants less w) (code_below constants less w others))
        ∙ decode_code constants most v named

    second_mixed : second_of (mixed v w) ≡ w
    unfolding second_of
    second_mixed =
        joined_above next Label (λ i. decode constants less (i % width))
        (code constants most v * width + code constants less w)
        ∙ ap (decode constants less)
        (mod-mul-add (code constants most v) width (code constants less w) (code_below constants less w others))
        ∙ decode_code constants less w others

    -- both are read back
    pub first_pair : first_of (pair v w) ≡ v
    first_pair =
        ⊎_elim (λ (e, is, p). ap first_of p ∙ first_shared v is) (λ p. ap first_of p ∙ first_mixed) (pair_cases v w)

    pub second_pair : second_of (pair v w) ≡ w
    second_pair =
        ⊎_elim (λ (e, is, p). ap second_of p ∙ second_shared v is ∙ e) (λ p. ap second_of p ∙ second_mixed)
        (pair_cases v w)

    -- pairs have names
    pub pair_named : IsNamed constants top (pair v w)
    pair_named =
        ⊎_elim (λ (e, is, p). subst (IsNamed constants top) (sym p) (shared v is named))
        (λ p. subst (IsNamed constants top) (sym p) mixed_below) (pair_cases v w)
      where
        shared : (u : Val) → IsShared u → IsNamed constants most u → IsNamed constants top u
        shared (Const c) is among = among
        shared (Label k) is low = omega arith

        grow : (a m b n : ℕ) → b < m → (a + 1) * m ≤ n → next + (a * m + b) < next + n
        grow a m b n low all =
            let one : (a + 1) * m ≡ a * m + m = grind arith in
            omega arith

        mixed_below : next + (code constants most v * width + code constants less w) < top
        mixed_below =
            let high : code constants most v < most + length constants = code_below constants most v named in
            let low : code constants less w < width = code_below constants less w others in
            let all : (code constants most v + 1) * width ≤ (most + length constants) * width =
            mul-le-mul_right width (omega arith) in
            grow (code constants most v) width (code constants less w) ((most + length constants) * width) low all
