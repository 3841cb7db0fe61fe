-- The fields of a record by their places.
use Rattle.std.proofs.Common.{◌≡◌, ◌+◌, ◌<◌, ◌≤◌, ◌&&◌, ℕ, zero, suc, List, [], ◌∷◌, length, drop, get_or, cond, nat_eq, None, Some, Bool, true, false, refl, ◌∙◌, ap, arith}
use Rattle.std.specs.Cmp.Lexicographic.{pointwise}
use Rattle.std.specs.Str.{is_utf8, IsUtf8}
use Rattle.std.proofs.lemmas.Str.{IsUtf8-from_is_utf8, is_utf8-from_IsUtf8}
use Rattle.std.proofs.lemmas.Grind.{common_steps}
use Rattle.std.proofs.lemmas.Bool.Decides.{nat_tests}
use Rattle.std.proofs.lemmas.List.Sums.{sum_by-cons}
use Rattle.lists.proofs.Booleans.{both_true}
use Rattle.csv.specs.Records.{AllText, field_at}
use Rattle.csv_sources.specs.DataFile.{all_text, bad_column, place_in, times_in}

pub field_drop : (fs : List (List ℕ)) (i : ℕ) (f : List ℕ) → field_at fs i ≡ Some f → drop i fs ≡ f ∷ drop (i + 1) fs
unfolding field_at
field_drop [] i f h = absurd (cc)
field_drop (x ∷ fs) zero f h = grind (arith, common_steps, h)
field_drop (x ∷ fs) (suc i) f h = grind (arith, common_steps, field_drop fs i f h)

pub field_none : (fs : List (List ℕ)) (i : ℕ) → field_at fs i ≡ None → drop i fs ≡ []
unfolding field_at
field_none [] i h = grind (arith, common_steps)
field_none (x ∷ fs) zero h = absurd (cc)
field_none (x ∷ fs) (suc i) h = grind (arith, common_steps, field_none fs i h)

pub field_below : (fs : List (List ℕ)) (i : ℕ) (f : List ℕ) → field_at fs i ≡ Some f → i < length fs
unfolding field_at
field_below [] i f h = absurd (cc)
field_below (x ∷ fs) zero f h = omega arith
field_below (x ∷ fs) (suc i) f h = omega (arith, field_below fs i f h)

-- a field that is no text
pub not_text : (fs : List (List ℕ)) (i : ℕ) (f : List ℕ) → field_at fs i ≡ Some f → ¬ (IsUtf8 f) → all_text (drop i fs) ≡ false
not_text fs i f h bad = ap all_text (field_drop fs i f h) ∙ step (is_utf8 f) refl
  where
    step : (b : Bool) → is_utf8 f ≡ b → (b && all_text (drop (i + 1) fs)) ≡ false
    step true is = absurd (bad (IsUtf8-from_is_utf8 f is))
    step false is = refl

pub more_text : (fs : List (List ℕ)) (i : ℕ) (f : List ℕ) → field_at fs i ≡ Some f → IsUtf8 f → all_text (drop i fs) ≡ all_text (drop (i + 1) fs)
more_text fs i f h good = ap all_text (field_drop fs i f h) ∙ ap (λ b. b && all_text (drop (i + 1) fs)) (is_utf8-from_IsUtf8 f good)

-- behind the last field there is nothing that is no text
pub end_text : (fs : List (List ℕ)) (i : ℕ) → field_at fs i ≡ None → all_text (drop i fs) ≡ true
end_text fs i h = ap all_text (field_none fs i h)

-- a name against the field at a place
pub times_step : (fs : List (List ℕ)) (i : ℕ) (f name : List ℕ) (b : Bool) → field_at fs i ≡ Some f → pointwise nat_eq f name ≡ b
    → times_in (drop i fs) name ≡ cond b 1 0 + times_in (drop (i + 1) fs) name
times_step fs i f name b at test =
    ap (λ (l : List (List ℕ)). times_in l name) (field_drop fs i f at)
    ∙ sum_by-cons (λ field. cond (pointwise nat_eq field name) 1 0) f (drop (i + 1) fs)
    ∙ ap (λ t. cond t 1 0 + times_in (drop (i + 1) fs) name) test

pub times_end : (fs : List (List ℕ)) (i : ℕ) (name : List ℕ) → field_at fs i ≡ None → times_in (drop i fs) name ≡ 0
times_end fs i name h = ap (λ (l : List (List ℕ)). times_in l name) (field_none fs i h)

pub place_step : (fs : List (List ℕ)) (i : ℕ) (f name : List ℕ) (b : Bool) → field_at fs i ≡ Some f → pointwise nat_eq f name ≡ b
    → place_in (drop i fs) name ≡ cond b 0 (place_in (drop (i + 1) fs) name + 1)
place_step fs i f name b at test = ap (λ (l : List (List ℕ)). place_in l name) (field_drop fs i f at) ∙ ap (λ t. cond t 0 (place_in (drop (i + 1) fs) name + 1)) test

pub place_end : (fs : List (List ℕ)) (i : ℕ) (name : List ℕ) → field_at fs i ≡ None → place_in (drop i fs) name ≡ 0
place_end fs i name h = ap (λ (l : List (List ℕ)). place_in l name) (field_none fs i h)

-- a column whose name does not stand in the header exactly once
pub bad_here : (header : List (List ℕ)) (n : ℕ) (left : List (List ℕ)) (name d : List ℕ) → 1 ≤ length left → name ≡ get_or left 0 d → (times_in header name ≡ 1 → ⊥) → bad_column header n left ≡ Some n
bad_here header n [] name d some is bad = absurd (omega (arith, some))
bad_here header n (x ∷ left) name d some is bad =
    let apart : times_in header x ≡ 1 → ⊥ = λ e. bad (ap (times_in header) is ∙ e) in
    let test : nat_eq (times_in header x) 1 ≡ false = grind (arith, nat_tests, apart) in
    ap (λ t. cond t (bad_column header (n + 1) left) (Some n)) test

-- a record is of text just where its fields are
pub all_text-true : (fs : List (List ℕ)) → AllText fs → all_text fs ≡ true
unfolding AllText
all_text-true [] all = refl
all_text-true (f ∷ fs) all = ap (λ b. b && all_text fs) (is_utf8-from_IsUtf8 f all.0) ∙ all_text-true fs all.1

pub AllText-from_all_text : (fs : List (List ℕ)) → all_text fs ≡ true → AllText fs
unfolding AllText
AllText-from_all_text [] is = tt
AllText-from_all_text (f ∷ fs) is = let both = both_true (is_utf8 f) (all_text fs) is in (IsUtf8-from_is_utf8 f both.0, AllText-from_all_text fs both.1)

pub all_text-false : (fs : List (List ℕ)) → ¬ (AllText fs) → all_text fs ≡ false
all_text-false fs not_all = by (all_text fs) refl
  where
    by : (b : Bool) → all_text fs ≡ b → b ≡ false
    by true is = absurd (not_all (AllText-from_all_text fs is))
    by false is = refl
