-- The first lanes, and those behind them.
use Rattle.std.proofs.Common.{◌≡◌, ◌++◌, ◌∙◌, ℕ, zero, suc, List, [], ◌∷◌, length, take, drop, refl, sym, ap, subst, arith}
use Rattle.source_trait.specs.Asking.{Seen}
use Rattle.source_trait.specs.Lanes.{LanesStay}
use Rattle.source_trait.specs.declared.lanes.Lane.{Lane}
use Rattle.source_trait.proofs.LaneSteps.{LanesStay-refl}

module _ {A : Type 0} where
  -- a list of the same length, written over the other, is there whole
  written_over : (xs ys : List A) → length ys ≡ length xs → take (length xs) (ys ++ drop (length ys) xs) ≡ ys
  written_over [] [] long = refl
  written_over [] (y ∷ ys) long = absurd (omega (arith, long))
  written_over (x ∷ xs) [] long = absurd (omega (arith, long))
  written_over (x ∷ xs) (y ∷ ys) long = ap (λ (l : List A). y ∷ l) (written_over xs ys (omega (arith, long)))

  as_long : (n : ℕ) (xs us : List A) → length us ≡ length (take n xs) → length (us ++ drop n xs) ≡ length xs
  as_long zero xs [] long = refl
  as_long zero xs (u ∷ us) long = absurd (omega (arith, long))
  as_long (suc n) [] [] long = refl
  as_long (suc n) [] (u ∷ us) long = absurd (omega (arith, long))
  as_long (suc n) (x ∷ xs) [] long = absurd (omega (arith, long))
  as_long (suc n) (x ∷ xs) (u ∷ us) long = ap suc (as_long n xs us (omega (arith, long)))

module _ {S : Type 0} (seen : S → Seen) where
  pub as_many : (old new : List (Lane S)) → LanesStay seen old new → length new ≡ length old
  as_many [] [] stay = refl
  as_many [] (u ∷ us) stay = absurd stay
  as_many (w ∷ ws) [] stay = absurd stay
  as_many (w ∷ ws) (u ∷ us) stay = ap suc (as_many ws us stay.1)

  -- where the first lanes stay in their order, all do
  pub first_stay : (n : ℕ) (lanes us : List (Lane S)) → LanesStay seen (take n lanes) us → LanesStay seen lanes (us ++ drop n lanes)
  first_stay zero lanes [] stay = LanesStay-refl seen lanes
  first_stay zero lanes (u ∷ us) stay = absurd stay
  first_stay (suc n) [] [] stay = tt
  first_stay (suc n) [] (u ∷ us) stay = absurd stay
  first_stay (suc n) (w ∷ ws) [] stay = absurd stay
  first_stay (suc n) (w ∷ ws) (u ∷ us) stay = (stay.0, first_stay n ws us stay.1)

  -- so it is with lanes of which the first ones were lent
  pub lent_stay : (n len : ℕ) (lanes used behind us : List (Lane S)) → used ≡ take n lanes → behind ≡ drop n lanes → len ≡ length lanes → LanesStay seen used us →
      LanesStay seen lanes (take len ((us ++ behind) ++ drop (length (us ++ behind)) lanes))
  lent_stay n len lanes used behind us first rest all stay =
      let kept : LanesStay seen (take n lanes) us = subst (λ (l : List (Lane S)). LanesStay seen l us) first stay in
      let whole : take len ((us ++ drop n lanes) ++ drop (length (us ++ drop n lanes)) lanes) ≡ us ++ drop n lanes =
      ap (λ (m : ℕ). take m ((us ++ drop n lanes) ++ drop (length (us ++ drop n lanes)) lanes)) all
      ∙ written_over lanes (us ++ drop n lanes) (as_long n lanes us (as_many (take n lanes) us kept)) in
      subst (λ (b : List (Lane S)). LanesStay seen lanes (take len ((us ++ b) ++ drop (length (us ++ b)) lanes))) (sym rest)
      (subst (λ (l : List (Lane S)). LanesStay seen lanes l) (sym whole) (first_stay n lanes us kept))
