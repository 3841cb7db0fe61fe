use Rattle.std.proofs.Common.{◌≡◌, ◌∙◌, ◌<◌, ◌≤◌, List, ℕ, [], ◌∷◌, suc, false, None, Some, cond, refl, length, map, drop, arith, length-drop}
use Rattle.std.specs.Prelude.{◌==◌}
use Rattle.std.proofs.lemmas.Bool.Decides.{nat_tests}
use Rattle.std.proofs.lemmas.List.{length-map}
use Rattle.meaning.specs.declared.types.Place.{Place}
use Rattle.middleware.specs.Joining.{joined}
use Rattle.middleware.proofs.partial_rows.join_row.Goals as goal

more_values : (places : List Place) (values row : List (List ℕ)) → length places < 1 → 1 ≤ length values → joined places values row ≡ None
more_values [] [] row none some = absurd (omega arith)
more_values [] (value ∷ values) row none some = refl
more_values (place ∷ places) values row none some = absurd (omega arith)

not_zero : (n : ℕ) → (suc n == 0) ≡ false
not_zero n = grind (arith, nat_tests)

no_values : (places : List Place) (values row : List (List ℕ)) → length values ≡ 0 → joined places values row ≡ cond (length places == 0) (Some row) None
no_values places (value ∷ values) row none = absurd (omega arith)
no_values [] [] row none = refl
no_values (place ∷ places) [] row none = rw (not_zero (length places)) refl

pub returns-in_default : goal.returns-in_default
returns-in_default c =
    let left : 1 ≤ length (map (λ s. s.now) (drop c.loop-value.value-index c.args.values.now)) = simp (length-map, length-drop) (omega arith) in
    c.loop-value.invariant ∙ more_values _ _ _ c.in_default.len_below left

pub returns : goal.returns
returns c =
    let none : length (map (λ s. s.now) (drop c.loop-value.value-index c.args.values.now)) ≡ 0 = simp (length-map, length-drop) (omega arith) in
    rw c.is_empty.ensures (c.loop-value.invariant ∙ no_values c.loop-value.left.now _ _ none)
