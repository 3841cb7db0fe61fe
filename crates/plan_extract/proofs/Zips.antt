-- Two lists side by side.
use Rattle.std.proofs.Common.{◌≡◌, ℕ, zero, suc, ◌+◌, ◌<◌, List, [], ◌∷◌, ◌++◌, length, take, refl, sym, subst, arith}
use Rattle.std.specs.Prelude.{Contains, slice_get, slice_index_or, Some}
use Rattle.std.specs.List.{AllZip}
use Rattle.lists.proofs.Members.{contains_here, contains_there, some_injective}
use Rattle.lists.proofs.Places.{take_got, got_indexed}

module _ {A B : Type 0} (P : A → B → Type 0) where
  pub zip_push : (xs : List A) (ys : List B) (x : A) (y : B) → AllZip P xs ys → P x y → AllZip P (xs ++ x ∷ []) (ys ++ y ∷ [])
  zip_push [] [] x y all one = (one, tt)
  zip_push [] (z ∷ ys) x y all one = absurd all
  zip_push (z ∷ xs) [] x y all one = absurd all
  zip_push (z ∷ xs) (w ∷ ys) x y all one = (all.0, zip_push xs ys x y all.1 one)

  pub zip_length : (xs : List A) (ys : List B) → AllZip P xs ys → length ys ≡ length xs
  zip_length [] [] all = refl
  zip_length [] (y ∷ ys) all = absurd all
  zip_length (x ∷ xs) [] all = absurd all
  zip_length (x ∷ xs) (y ∷ ys) all = let rest = zip_length xs ys all.1 in omega arith

  -- a member of the first list has its counterpart
  pub zip_left : (xs : List A) (ys : List B) (x : A) → AllZip P xs ys → Contains xs x → (y : B) × Contains ys y × P x y
  zip_left [] ys x all (k, low, at) = absurd (omega arith)
  zip_left (z ∷ xs) [] x all among = absurd all
  zip_left (z ∷ xs) (y ∷ ys) x all (zero, low, at) = (y, contains_here y ys, subst (λ a. P a y) at all.0)
  zip_left (z ∷ xs) (y ∷ ys) x all (suc k, low, at) =
      let (w, there, is) = zip_left xs ys x all.1 (k, omega arith, at) in (w, contains_there y ys w there, is)

  -- a member of the second list has its counterpart
  pub zip_right : (xs : List A) (ys : List B) (y : B) → AllZip P xs ys → Contains ys y → (x : A) × Contains xs x × P x y
  zip_right xs [] y all (k, low, at) = absurd (omega arith)
  zip_right [] (w ∷ ys) y all among = absurd all
  zip_right (x ∷ xs) (w ∷ ys) y all (zero, low, at) = (x, contains_here x xs, subst (P x) at all.0)
  zip_right (x ∷ xs) (w ∷ ys) y all (suc k, low, at) =
      let (z, there, is) = zip_right xs ys y all.1 (k, omega arith, at) in (z, contains_there x xs z there, is)

  -- what stands at a place of the second list has its counterpart at that place
  pub zip_at : (xs : List A) (ys : List B) (k : ℕ) (y : B) → AllZip P xs ys → slice_get ys k ≡ Some y → (x : A) × (slice_get xs k ≡ Some x) × P x y
  zip_at xs [] k y all at = absurd (cc)
  zip_at [] (w ∷ ys) k y all at = absurd all
  zip_at (x ∷ xs) (w ∷ ys) zero y all at = (x, refl, subst (P x) (some_injective w y at) all.0)
  zip_at (x ∷ xs) (w ∷ ys) (suc k) y all at = zip_at xs ys k y all.1 at

  -- what stands at a place of the first list has its counterpart at that place
  pub zip_from : (xs : List A) (ys : List B) (k : ℕ) (x : A) → AllZip P xs ys → slice_get xs k ≡ Some x → (y : B) × (slice_get ys k ≡ Some y) × P x y
  zip_from [] ys k x all at = absurd (cc)
  zip_from (z ∷ xs) [] k x all at = absurd all
  zip_from (z ∷ xs) (y ∷ ys) zero x all at = (y, refl, subst (λ a. P a y) (some_injective z x at) all.0)
  zip_from (z ∷ xs) (y ∷ ys) (suc k) x all at = zip_from xs ys k x all.1 at

  -- one more of each
  pub zip_more : (xs : List A) (ys pushed : List B) (n : ℕ) (x : A) (y : B) → AllZip P (take n xs) ys → n < length xs → x ≡ slice_index_or xs n x → P x y → pushed ≡ ys ++ y ∷ [] →
      AllZip P (take (n + 1) xs) pushed
  zip_more xs ys pushed n x y all low is one e =
      subst (λ zs. AllZip P (take (n + 1) xs) zs) (sym e)
      (subst (λ zs. AllZip P zs (ys ++ y ∷ [])) (sym (take_got xs n x (got_indexed xs n x low is))) (zip_push (take n xs) ys x y all one))
