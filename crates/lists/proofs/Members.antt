-- Members of lists: where they stand, and what maps, filters and joins do to them. Crates above cite these lemmas.
use Rattle.std.proofs.Common.{◌≡◌, ◌⊎◌, ◌∙◌, ℕ, zero, suc, ◌<◌, List, [], ◌∷◌, ◌++◌, length, take, drop, Bool, true, false, cond, Option, Some, None, refl, sym, ap, subst, inl, inr, ⊎_elim, arith, append_assoc}
use Rattle.std.specs.Prelude.{Contains, slice_get, map, flat_map}
use Rattle.std.specs.List.{AllByRecursion, AllZip, filter}
use Rattle.std.proofs.lemmas.List.{take-append-drop}
use Rattle.std.proofs.lemmas.List.Elements.{Contains-append_cases, Contains-append_left, Contains-append_right}
use Rattle.std.proofs.lemmas.Option.{slice_get_within, get_or_from_slice_get}

pub contains_here : {X : Type 0} (x : X) (xs : List X) → Contains (x ∷ xs) x
contains_here x xs = (0, omega arith, refl)

pub contains_there : {X : Type 0} (y : X) (xs : List X) (x : X) → Contains xs x → Contains (y ∷ xs) x
contains_there y xs x (k, l, e) = (suc k, omega arith, e)

pub contains_cases : {X : Type 0} (y : X) (xs : List X) (x : X) → Contains (y ∷ xs) x → (y ≡ x) ⊎ Contains xs x
contains_cases y xs x (zero, l, e) = inl e
contains_cases y xs x (suc k, l, e) = inr (k, omega arith, e)

pub contains_got : {X : Type 0} (xs : List X) (k : ℕ) (x : X) → slice_get xs k ≡ Some x → Contains xs x
contains_got xs k x e = (k, slice_get_within xs k x e, get_or_from_slice_get xs k x x e)

pub got_push : {X : Type 0} (xs : List X) (y : X) → slice_get (xs ++ y ∷ []) (length xs) ≡ Some y
got_push [] y = refl
got_push (x ∷ xs) y = got_push xs y

pub got_before : {X : Type 0} (xs ys : List X) (k : ℕ) → k < length xs → slice_get (xs ++ ys) k ≡ slice_get xs k
got_before [] ys k l = absurd (omega arith)
got_before (x ∷ xs) ys zero l = refl
got_before (x ∷ xs) ys (suc k) l = got_before xs ys k (omega arith)

pub got_below : {X : Type 0} (xs : List X) (k : ℕ) → k < length xs → (x : X) × (slice_get xs k ≡ Some x)
got_below [] k l = absurd (omega arith)
got_below (x ∷ xs) zero l = (x, refl)
got_below (x ∷ xs) (suc k) l = got_below xs k (omega arith)

pub some_injective : {X : Type 0} (x y : X) → Some x ≡ Some y → x ≡ y
some_injective x y e = cc

pub contains_map : {X Y : Type 0} (f : X → Y) (xs : List X) (x : X) → Contains xs x → Contains (map f xs) (f x)
contains_map f [] x c = absurd (omega arith)
contains_map f (y ∷ xs) x c = ⊎_elim (λ e. (0, omega arith, ap f e)) (λ h. contains_there (f y) (map f xs) (f x) (contains_map f xs x h)) (contains_cases y xs x c)

pub contains_mapped : {X Y : Type 0} (f : X → Y) (xs : List X) (y : Y) → Contains (map f xs) y → (x : X) × Contains xs x × (f x ≡ y)
contains_mapped f [] y c = absurd (omega arith)
contains_mapped f (x ∷ xs) y c =
    ⊎_elim (λ e. (x, contains_here x xs, e)) (λ h. let (z, among, e) = contains_mapped f xs y h in (z, contains_there x xs z among, e)) (contains_cases (f x) (map f xs) y c)

pub got_mapped : {X Y : Type 0} (f : X → Y) (xs : List X) (k : ℕ) (y : Y) → slice_get (map f xs) k ≡ Some y → (x : X) × (slice_get xs k ≡ Some x) × (f x ≡ y)
got_mapped f [] k y e = absurd (cc)
got_mapped f (x ∷ xs) zero y e = (x, refl, some_injective (f x) y e)
got_mapped f (x ∷ xs) (suc k) y e = got_mapped f xs k y e

pub map_got : {X Y : Type 0} (f : X → Y) (xs : List X) (k : ℕ) (x : X) → slice_get xs k ≡ Some x → slice_get (map f xs) k ≡ Some (f x)
map_got f [] k x e = absurd (cc)
map_got f (y ∷ xs) zero x e = ap (λ z. Some (f z)) (some_injective y x e)
map_got f (y ∷ xs) (suc k) x e = map_got f xs k x e

pub map_same : {X Y : Type 0} (f g : X → Y) (xs : List X) → ((x : X) → Contains xs x → f x ≡ g x) → map f xs ≡ map g xs
map_same f g [] same = refl
map_same f g (x ∷ xs) same =
    let here : f x ≡ g x = same x (contains_here x xs) in
    let rest : map f xs ≡ map g xs = map_same f g xs (λ y c. same y (contains_there x xs y c)) in
    cc

-- no members, and one
pub contains_none : {X : Type 0} (x : X) → Contains [] x → ⊥
contains_none x c = omega arith

pub contains_one : {X : Type 0} (x y : X) → Contains (x ∷ []) y → x ≡ y
contains_one x y c = ⊎_elim (λ e. e) (λ h. absurd (contains_none y h)) (contains_cases x [] y c)

-- lists that are joined, cut or filtered
pub contains_joined : {X Y : Type 0} (f : X → List Y) (xs : List X) (x : X) (y : Y) → Contains xs x → Contains (f x) y → Contains (flat_map f xs) y
contains_joined f [] x y c d = absurd (omega arith)
contains_joined f (z ∷ xs) x y c d =
    ⊎_elim (λ e. Contains-append_left (f z) (flat_map f xs) y (subst (λ w. Contains (f w) y) (sym e) d)) (λ h. Contains-append_right (f z) (flat_map f xs) y (contains_joined f xs x y h d)) (contains_cases z xs x c)

pub joined_from : {X Y : Type 0} (f : X → List Y) (xs : List X) (y : Y) → Contains (flat_map f xs) y → (x : X) × Contains xs x × Contains (f x) y
joined_from f [] y c = absurd (omega arith)
joined_from f (x ∷ xs) y c =
    ⊎_elim (λ h. (x, contains_here x xs, h)) (λ h. let (z, among, e) = joined_from f xs y h in (z, contains_there x xs z among, e)) (Contains-append_cases (f x) (flat_map f xs) y c)

pub contains_take : {X : Type 0} (n : ℕ) (xs : List X) (x : X) → Contains (take n xs) x → Contains xs x
contains_take n xs x c = subst (λ l. Contains l x) (take-append-drop n xs) (Contains-append_left (take n xs) (drop n xs) x c)

pub contains_filter : {X : Type 0} (test : X → Bool) (xs : List X) (x : X) → Contains xs x → test x ≡ true → Contains (filter test xs) x
contains_filter test [] x c e = c
contains_filter test (y ∷ xs) x c e = by (test y) refl (contains_cases y xs x c) (λ h. contains_filter test xs x h e)
  where
    clash : false ≡ true → ⊥
    clash e = cc

    by : (t : Bool) → test y ≡ t → (y ≡ x) ⊎ Contains xs x → (Contains xs x → Contains (filter test xs) x) → Contains (cond t (y ∷ filter test xs) (filter test xs)) x
    by true f either more = ⊎_elim (λ g. subst (Contains (y ∷ filter test xs)) g (contains_here y (filter test xs))) (λ h. contains_there y (filter test xs) x (more h)) either
    by false f either more = ⊎_elim (λ g. absurd (clash (sym f ∙ ap test g ∙ e))) more either

pub filter_from : {X : Type 0} (test : X → Bool) (xs : List X) (x : X) → Contains (filter test xs) x → Contains xs x × (test x ≡ true)
filter_from test [] x c = absurd (omega arith)
filter_from test (y ∷ xs) x c = step (test y) refl (λ h. filter_from test xs x h) c
  where
    step : (b : Bool) → test y ≡ b → (Contains (filter test xs) x → Contains xs x × (test x ≡ true)) → Contains (cond b (y ∷ filter test xs) (filter test xs)) x → Contains (y ∷ xs) x × (test x ≡ true)
    step true t rec c = ⊎_elim (λ e. (subst (λ z. Contains (y ∷ xs) z) e (contains_here y xs), subst (λ z. test z ≡ true) e t)) (λ h. let r = rec h in (contains_there y xs x r.0, r.1)) (contains_cases y (filter test xs) x c)
    step false t rec c = let r = rec c in (contains_there y xs x r.0, r.1)

-- what holds of each member
pub all_member : {X : Type 0} (P : X → Type 0) (xs : List X) (x : X) → AllByRecursion P xs → Contains xs x → P x
all_member P [] x all c = absurd (omega arith)
all_member P (y ∷ xs) x all c = ⊎_elim (λ e. subst P e all.0) (λ h. all_member P xs x all.1 h) (contains_cases y xs x c)

pub all_from : {X : Type 0} (P : X → Type 0) (xs : List X) → ((x : X) → Contains xs x → P x) → AllByRecursion P xs
all_from P [] each = tt
all_from P (x ∷ xs) each = (each x (contains_here x xs), all_from P xs (λ y c. each y (contains_there x xs y c)))

pub all_along : {X : Type 0} (P Q : X → Type 0) → ((x : X) → P x → Q x) → (xs : List X) → AllByRecursion P xs → AllByRecursion Q xs
all_along P Q each [] all = tt
all_along P Q each (x ∷ xs) all = (each x all.0, all_along P Q each xs all.1)

-- two joins in a row
pub joined_twice : (out now next p q : List ℕ) → now ≡ out ++ p → next ≡ now ++ q → next ≡ out ++ (p ++ q)
joined_twice out now next p q e f = f ∙ ap (λ z. z ++ q) e ∙ append_assoc out p q

-- heads and tails
pub head_is : {X : Type 0} (x y : X) (xs ys : List X) → x ∷ xs ≡ y ∷ ys → x ≡ y
head_is x y xs ys e = cc

pub tail_is : {X : Type 0} (x y : X) (xs ys : List X) → x ∷ xs ≡ y ∷ ys → xs ≡ ys
tail_is x y xs ys e = cc

-- nothing is not something
pub none_some : {X : Type 0} (x : X) → None ≡ Some x → ⊥
none_some x e = cc

pub none_apart : {X : Type 0} (o : Option X) (x : X) → o ≡ None → o ≡ Some x → ⊥
none_apart o x e f = cc

pub cons_same : {X : Type 0} (x y : X) (xs ys : List X) → x ≡ y → xs ≡ ys → x ∷ xs ≡ y ∷ ys
cons_same x y xs ys e f = cc

-- one more of each of two lists
pub zip_push : {A B : Type 0} (R : A → B → Type 0) (xs : List A) (ys : List B) (x : A) (y : B) →
    AllZip R xs ys → R x y → AllZip R (xs ++ x ∷ []) (ys ++ y ∷ [])
zip_push R [] [] x y all one = (one, tt)
zip_push R [] (b ∷ ys) x y all one = absurd all
zip_push R (a ∷ xs) [] x y all one = absurd all
zip_push R (a ∷ xs) (b ∷ ys) x y all one = (all.0, zip_push R xs ys x y all.1 one)
