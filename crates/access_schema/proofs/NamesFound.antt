-- Names in a list.
use Rattle.std.proofs.Common.{◌≡◌, ◌≢◌, ◌<◌, ◌≤◌, ◌+◌, inl, inr, ℕ, List, length, get_or, map, slice_get, Some, option_map, refl, ◌∙◌, ap, arith}
use Rattle.std.proofs.lemmas.Option.{slice_get-map, slice_get_read, slice_get_past}
use Rattle.std.proofs.lemmas.Bool.{cases_eq}

module _ {X Y : Type 0} (f : X → Y) where
  pub image_at : (xs : List X) (i : ℕ) (x : X) → i < length xs → x ≡ get_or xs i x → slice_get (map f xs) i ≡ Some (f x)
  image_at xs i x lt is = slice_get-map f xs i ∙ ap (option_map f) (slice_get_read xs (length xs) i x refl lt is)

  pub not_among : (xs : List X) (i : ℕ) (x : X) (y : Y) → i < length xs → x ≡ get_or xs i x → f x ≢ y → ((k : ℕ) → k < i → slice_get (map f xs) k ≢ Some y) → (k : ℕ) → k < i + 1 → slice_get (map f xs) k ≢ Some y
  not_among xs i x y lt is other before k le here = elim (cases_eq k i) [
    | inl at ↦ other (grind (arith, image_at xs i x lt is, here, at))
    | inr apart ↦ before k (omega (arith, le, apart)) here
  ]

  pub in_none : (xs : List X) (i : ℕ) (y : Y) → length xs ≤ i → ((k : ℕ) → k < i → slice_get (map f xs) k ≢ Some y) → (k : ℕ) → slice_get (map f xs) k ≢ Some y
  in_none xs i y end before k here = before k (grind (arith, slice_get-map f xs k, slice_get_past xs k, here)) here
