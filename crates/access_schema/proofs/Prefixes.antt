-- Lists that parts give: what each part adds to what those before it gave.
use Rattle.std.proofs.Common.{◌≡◌, ◌⊎◌, ◌+◌, ◌<◌, ◌≤◌, ◌∙◌, sym, ap, subst, ℕ, zero, suc, List, [], ◌∷◌, ◌++◌, Option, Some, None, length, take, refl, arith, inl, inr, ⊎_elim, map, slice_get}
use Rattle.std.specs.Prelude.{Contains, filter_map, option_map, option_to_list}
use Rattle.std.specs.List.{cons_option}
use Rattle.std.proofs.Math.Seq.{take-length}
use Rattle.std.proofs.lemmas.List.{append-nil, length-append}
use Rattle.access_schema.specs.Names.{AllDiffer}
use Rattle.lists.proofs.Members.{contains_here, contains_there, contains_cases, got_below}
use Rattle.lists.proofs.Places.{take_got}
use Rattle.access_schema.proofs.LeastFault.{mapped_push}
use Rattle.access_schema.proofs.Texts.{differ_push}

-- what holds of no part, and goes on from part to part, holds of all
module _ {X : Type 0} (P : List X → Type 0) (xs : List X) (none : P []) (more : (k : ℕ) (x : X) → slice_get xs k ≡ Some x → P (take k xs) → P (take k xs ++ x ∷ [])) where
  upto : (k : ℕ) → k ≤ length xs → P (take k xs)
  upto zero le = none
  upto (suc k) le =
      let (x, at) = got_below xs k (omega arith) in
      let e : suc k ≡ k + 1 = omega arith in
      subst P (sym (ap (λ n. take n xs) e ∙ take_got xs k x at)) (more k x at (upto k (omega arith)))

  pub prefix_all : P xs
  prefix_all = subst P (take-length xs) (upto (length xs) (omega arith))

cons_kept : {Y : Type 0} (o : Option Y) (ys : List Y) (y : Y) → Contains ys y → Contains (cons_option o ys) y
cons_kept None ys y there = there
cons_kept (Some z) ys y there = contains_there z ys y there

cons_found : {Y : Type 0} (o : Option Y) (ys : List Y) (y : Y) → Contains (cons_option o ys) y → (o ≡ Some y) ⊎ Contains ys y
cons_found None ys y there = inr there
cons_found (Some z) ys y there = ⊎_elim (λ same. inl (ap Some same)) (λ later. inr later) (contains_cases z ys y there)

-- a member of what is given comes from a part
pub given_by : {X Y : Type 0} (h : X → Option Y) (xs : List X) (y : Y) → Contains (filter_map h xs) y → (k : ℕ) × (x : X) × (slice_get xs k ≡ Some x) × (h x ≡ Some y)
given_by h [] y there = absurd (omega arith)
given_by h (x ∷ xs) y there = ⊎_elim
    (λ is. (0, x, refl, is))
    (λ later. let (k, z, at, is) = given_by h xs y later in (suc k, z, at, is))
    (cons_found (h x) (filter_map h xs) y there)

-- and each part gives its member
pub given_from : {X Y : Type 0} (h : X → Option Y) (xs : List X) (x : X) (y : Y) → Contains xs x → h x ≡ Some y → Contains (filter_map h xs) y
given_from h [] x y among is = absurd (omega arith)
given_from {X} {Y} h (z ∷ xs) x y among is = ⊎_elim
    (λ same. let gives : h z ≡ Some y = ap h same ∙ is in subst (λ (o : Option Y). Contains (cons_option o (filter_map h xs)) y) (sym gives) (contains_here y (filter_map h xs)))
    (λ later. cons_kept (h z) (filter_map h xs) y (given_from h xs x y later is))
    (contains_cases z xs x among)

push_differ : {Y : Type 0} (ys : List Y) (o : Option Y) → AllDiffer ys → ((y : Y) → o ≡ Some y → Contains ys y → ⊥) → AllDiffer (ys ++ option_to_list o)
push_differ ys None differ free = subst AllDiffer (sym (append-nil ys)) differ
push_differ ys (Some y) differ free = differ_push ys y differ (free y refl)

push_few : {Y : Type 0} (ys : List Y) (o : Option Y) (most : ℕ) → length ys ≤ most → ((y : Y) → o ≡ Some y → length ys < most) → length (ys ++ option_to_list o) ≤ most
push_few ys None most few room = let e = ap length (append-nil ys) in omega arith
push_few ys (Some y) most few room = let lt = room y refl in let e = length-append ys (y ∷ []) in omega arith

-- lists without repetition, where no part gives what one before it gave
pub differ_all : {X Y : Type 0} (h : X → Option Y) (xs : List X) → ((k : ℕ) (x : X) (y : Y) → slice_get xs k ≡ Some x → h x ≡ Some y → Contains (filter_map h (take k xs)) y → ⊥) → AllDiffer (filter_map h xs)
differ_all h xs new = prefix_all (λ ys. AllDiffer (filter_map h ys)) xs (λ i j member at_i at_j. absurd (cc))
    (λ k x at differ. subst AllDiffer (sym (mapped_push h (take k xs) x)) (push_differ (filter_map h (take k xs)) (h x) differ (λ y is. new k x y at is)))

-- lists within a limit, where each part that gives something finds room
pub few_all : {X Y : Type 0} (h : X → Option Y) (most : ℕ) (xs : List X) → ((k : ℕ) (x : X) (y : Y) → slice_get xs k ≡ Some x → h x ≡ Some y → length (filter_map h (take k xs)) < most) → length (filter_map h xs) ≤ most
few_all {X} {Y} h most xs room = prefix_all (λ ys. length (filter_map h ys) ≤ most) xs (omega arith)
    (λ k x at few. subst (λ (ys : List Y). length ys ≤ most) (sym (mapped_push h (take k xs) x)) (push_few (filter_map h (take k xs)) (h x) most few (λ y is. room k x y at is)))

cons_given : {Y Z : Type 0} (f : Y → Z) (o : Option Y) (ys : List Y) (zs : List Z) → map f ys ≡ zs → map f (cons_option o ys) ≡ cons_option (option_map f o) zs
cons_given f None ys zs same = same
cons_given f (Some y) ys zs same = ap (λ rest. f y ∷ rest) same

-- what is given of what is given
pub given_mapped : {X Y Z : Type 0} (f : Y → Z) (h : X → Option Y) (xs : List X) → map f (filter_map h xs) ≡ filter_map (λ x. option_map f (h x)) xs
given_mapped f h [] = refl
given_mapped f h (x ∷ xs) = cons_given f (h x) (filter_map h xs) (filter_map (λ y. option_map f (h y)) xs) (given_mapped f h xs)
