-- What holds of each member so far, and then of all.
use Rattle.std.proofs.Common.{◌≡◌, ◌<◌, ◌≤◌, ◌+◌, sym, subst, ℕ, List, length, take, ⊎_elim}
use Rattle.std.specs.Prelude.{Contains, slice_index_or}
use Rattle.std.proofs.lemmas.List.{take_all}
use Rattle.std.proofs.lemmas.List.Elements.{Contains-push_cases}
use Rattle.lists.proofs.Places.{take_indexed}

module _ {X : Type 0} (P : X → Type 0) (xs : List X) (k : ℕ) (before : (y : X) → Contains (take k xs) y → P y) where
  pub each_more : (x : X) → k < length xs → x ≡ slice_index_or xs k x → P x → (y : X) → Contains (take (k + 1) xs) y → P y
  each_more x lt at is y there = ⊎_elim
      (λ earlier. before y earlier)
      (λ same. subst P same is)
      (Contains-push_cases (take k xs) x y (subst (λ (ys : List X). Contains ys y) (take_indexed xs k x lt at) there))

  pub each_all : length xs ≤ k → (y : X) → Contains xs y → P y
  each_all le y there = before y (subst (λ (ys : List X). Contains ys y) (sym (take_all k xs le)) there)
