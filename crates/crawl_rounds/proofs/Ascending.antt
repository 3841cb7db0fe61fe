-- Strictly ascending lists: mapped, and joined piece by piece.
use Rattle.std.proofs.Common.{◌≡◌, List, [], ◌∷◌, ◌++◌, ⊎_elim, subst}
use Rattle.std.specs.Prelude.{Contains, map, flat_map}
use Rattle.std.specs.List.Sorted.{IsStrictlySortedBy}
use Rattle.std.specs.declared.cmp.Ordering.{Ordering}
use Rattle.std.specs.declared.cmp.Ordering.TheVariants.{Less}
use Rattle.std.proofs.lemmas.List.Elements.{Contains-append_cases}
use Rattle.lists.proofs.Members.{contains_here, contains_there, contains_mapped, joined_from, all_member, all_from}

module _ {X Y : Type 0} (c : X → X → Ordering) (d : Y → Y → Ordering) (f : X → Y) (keeps : (x y : X) → c x y ≡ Less → d (f x) (f y) ≡ Less) where
  pub ascend_mapped : (xs : List X) → IsStrictlySortedBy c xs → IsStrictlySortedBy d (map f xs)
  unfolding IsStrictlySortedBy
  ascend_mapped [] s = tt
  ascend_mapped (x ∷ xs) s = (
    all_from (λ y. d (f x) y ≡ Less) (map f xs) (λ y h. let (z, among, e) = contains_mapped f xs y h in subst (λ w. d (f x) w ≡ Less) e (keeps x z (all_member (λ w. c x w ≡ Less) xs z s.0 among))),
    ascend_mapped xs s.1,
  )

module _ {X : Type 0} (c : X → X → Ordering) where
  pub ascend_append : (xs ys : List X) → IsStrictlySortedBy c xs → IsStrictlySortedBy c ys → ((x y : X) → Contains xs x → Contains ys y → c x y ≡ Less) → IsStrictlySortedBy c (xs ++ ys)
  unfolding IsStrictlySortedBy
  ascend_append [] ys s t below = t
  ascend_append (x ∷ xs) ys s t below = (
    all_from (λ y. c x y ≡ Less) (xs ++ ys) (λ y h. ⊎_elim (λ h. all_member (λ w. c x w ≡ Less) xs y s.0 h) (λ h. below x y (contains_here x xs) h) (Contains-append_cases xs ys y h)),
    ascend_append xs ys s.1 t (λ z y h k. below z y (contains_there x xs z h) k),
  )

-- pieces that ascend, each below those after it
module _ {X Y : Type 0} (c : X → X → Ordering) (d : Y → Y → Ordering) (f : X → List Y) where
  pub ascend_joined : (xs : List X) → IsStrictlySortedBy c xs → ((x : X) → Contains xs x → IsStrictlySortedBy d (f x)) → ((x y : X) → Contains xs x → Contains xs y → c x y ≡ Less → (a b : Y) → Contains (f x) a → Contains (f y) b → d a b ≡ Less) → IsStrictlySortedBy d (flat_map f xs)
  unfolding IsStrictlySortedBy
  ascend_joined [] s each below = tt
  ascend_joined (x ∷ xs) s each below = ascend_append d (f x) (flat_map f xs) (each x (contains_here x xs)) (ascend_joined xs s.1 (λ y h. each y (contains_there x xs y h)) (λ y z h k. below y z (contains_there x xs y h) (contains_there x xs z k)))
      (λ a b h k. let (y, among, in_y) = joined_from f xs b k in below x y (contains_here x xs) (contains_there x xs y among) (all_member (λ w. c x w ≡ Less) xs y s.0 among) a b h in_y)
