-- Terms made values, one after another.
use Rattle.std.proofs.Common.{◌≡◌, ◌⊎◌, ℕ, zero, suc, ◌<◌, ◌≤◌, List, [], ◌∷◌, length, Some, None, Option, refl, sym, ap, ◌∙◌, subst, inl, inr, ⊎_elim, arith, Contains, map, slice_get, slice_set, slice_index_or, ◌-◌, take, drop, Bool, true, false, ◌==◌}
use Rattle.std.proofs.lemmas.Option.{slice_get_within, slice_get-get_or}
use Rattle.lists.proofs.Members.{contains_cases, some_injective, contains_none, head_is, tail_is}
use Rattle.std.proofs.lemmas.Grind.{common_steps}
use Rattle.std.proofs.lemmas.Bool.Decides.{nat_tests}
use Rattle.meaning.specs.declared.types.Term.{Term}
use Rattle.meaning.specs.declared.types.Term.TheVariants.{Var, Const as Said}
use Rattle.meaning.specs.declared.types.Val.{Val}
use Rattle.meaning.specs.declared.types.Val.TheVariants.{Const}
use Rattle.meaning.specs.Matching.{value_of}
use Rattle.meaning.specs.Triggers.{terms_bound}
use Rattle.homomorphism.specs.Bindings.{Agrees, IsBound}
use Rattle.homomorphism.specs.Narrowing.{Narrows, Differs}

-- a place after a write
pub got_set_same : {X : Type 0} (xs : List X) (k : ℕ) (x : X) → k < length xs → slice_get (slice_set xs k x) k ≡ Some x
got_set_same [] k x l = absurd (omega arith)
got_set_same (y ∷ xs) zero x l = refl
got_set_same (y ∷ xs) (suc k) x l = got_set_same xs k x (omega arith)

pub got_set_other : {X : Type 0} (xs : List X) (j k : ℕ) (x : X) → (j ≡ k → ⊥) → slice_get (slice_set xs k x) j ≡ slice_get xs j
got_set_other [] j k x differ = refl
got_set_other (y ∷ xs) zero zero x differ = absurd (differ refl)
got_set_other (y ∷ xs) zero (suc k) x differ = refl
got_set_other (y ∷ xs) (suc j) zero x differ = refl
got_set_other (y ∷ xs) (suc j) (suc k) x differ = got_set_other xs j k x (λ e. differ (ap suc e))

pub length_set : {X : Type 0} (xs : List X) (k : ℕ) (x : X) → length (slice_set xs k x) ≡ length xs
length_set [] k x = refl
length_set (y ∷ xs) zero x = refl
length_set (y ∷ xs) (suc k) x = ap suc (length_set xs k x)

pub same_or_not : (j k : ℕ) → (j ≡ k) ⊎ (j ≡ k → ⊥)
same_or_not zero zero = inl refl
same_or_not zero (suc k) = inr (λ e. omega arith)
same_or_not (suc j) zero = inr (λ e. omega arith)
same_or_not (suc j) (suc k) = ⊎_elim (λ e. inl (ap suc e)) (λ n. inr (λ e. n (omega arith))) (same_or_not j k)

pub var_is : (x y : ℕ) → Var x ≡ Var y → x ≡ y
var_is x y e = cc

pub none_some : {X : Type 0} (x : X) → ◌≡◌ {A = Option X} None (Some x) → ⊥
none_some x e = cc

-- a variable without a value gets one
pub bind_new : (given : List (Option Val)) (x : ℕ) (v : Val) → slice_get given x ≡ Some None → Narrows (Var x ∷ []) (v ∷ []) given (slice_set given x (Some v))
bind_new given x v free = record {
  width = length_set given x (Some v);
  kept = λ y (w, e). ⊎_elim (λ same. absurd (clash w (sym free ∙ ap (slice_get given) (sym same) ∙ e))) (λ differ. (w, got_set_other given y x (Some v) differ ∙ e)) (same_or_not y x);
  bound = λ y c. ⊎_elim (λ e. (v, subst (λ z. slice_get (slice_set given x (Some v)) z ≡ Some (Some v)) (var_is x y e) here)) (λ h. absurd (contains_none (Var y) h)) (contains_cases (Var x) [] (Var y) c);
  wider = λ a agrees y w e. ⊎_elim (λ same. absurd (clash w (sym free ∙ ap (slice_get given) (sym same) ∙ e))) (λ differ. agrees y w (got_set_other given y x (Some v) differ ∙ e)) (same_or_not y x);
  sound = λ a agrees. ap (λ z. z ∷ []) (agrees x v here);
  complete = λ a agrees e y w got. ⊎_elim
      (λ same. ap a same ∙ head_is (a x) v [] [] e ∙ inner v w (some_injective (Some v) (Some w) (sym here ∙ ap (slice_get (slice_set given x (Some v))) (sym same) ∙ got)))
      (λ differ. agrees y w (sym (got_set_other given y x (Some v) differ) ∙ got)) (same_or_not y x);
}
  where
    here : slice_get (slice_set given x (Some v)) x ≡ Some (Some v)
    here = got_set_same given x (Some v) (slice_get_within given x None free)

    clash : (w : Val) → ◌≡◌ {A = Option (Option Val)} (Some None) (Some (Some w)) → ⊥
    clash w e = none_some w (some_injective None (Some w) e)

    inner : (v w : Val) → ◌≡◌ {A = Option Val} (Some v) (Some w) → v ≡ w
    inner v w e = some_injective v w e

-- what is known where some terms and values are left
pub record Reached (terms : List Term) (vals : List Val) (given : List (Option Val)) (left : List Term) (other : List Val) (narrow : List (Option Val)) : Type 0 where
  pub fits : terms_bound left ≤ length narrow
  pub width : length narrow ≡ length given
  pub kept : (x : ℕ) → IsBound given x → IsBound narrow x
  pub bound : (x : ℕ) → Contains terms (Var x) → IsBound narrow x ⊎ Contains left (Var x)
  pub wider : (a : ℕ → Val) → Agrees narrow a → Agrees given a
  pub sound : (a : ℕ → Val) → Agrees narrow a → map (value_of Const a) left ≡ other → map (value_of Const a) terms ≡ vals
  pub complete : (a : ℕ → Val) → Agrees given a → map (value_of Const a) terms ≡ vals → Agrees narrow a × (map (value_of Const a) left ≡ other)

pub reached_start : (terms : List Term) (vals : List Val) (given : List (Option Val)) → terms_bound terms ≤ length given → Reached terms vals given terms vals given
reached_start terms vals given fit = record {
  fits = fit;
  width = refl;
  kept = λ x b. b;
  bound = λ x c. inr c;
  wider = λ a agrees. agrees;
  sound = λ a agrees e. e;
  complete = λ a agrees e. (agrees, e);
}

-- the bound of a front
pub bound_first : (term : Term) (left : List Term) (n : ℕ) → terms_bound (term ∷ left) ≤ n → terms_bound (term ∷ []) ≤ n
bound_first (Var x) left n l = omega arith
bound_first (Said c) left n l = omega arith

bound_rest : (term : Term) (left : List Term) (n : ℕ) → terms_bound (term ∷ left) ≤ n → terms_bound left ≤ n
bound_rest (Var x) left n l = omega arith
bound_rest (Said c) left n l = l

pub reached_more : (terms : List Term) (vals : List Val) (given : List (Option Val)) (term : Term) (left : List Term) (val : Val) (other : List Val) (narrow next : List (Option Val)) →
    Reached terms vals given (term ∷ left) (val ∷ other) narrow → Narrows (term ∷ []) (val ∷ []) narrow next → Reached terms vals given left other next
reached_more terms vals given term left val other narrow next r n = record {
  fits = subst (λ m. terms_bound left ≤ m) (sym n.width) (bound_rest term left (length narrow) r.fits);
  width = n.width ∙ r.width;
  kept = λ x b. n.kept x (r.kept x b);
  bound = λ x c. ⊎_elim (λ b. inl (n.kept x b)) (λ h. ⊎_elim (λ e. inl (n.bound x (0, omega arith, e))) (λ g. inr g) (contains_cases term left (Var x) h)) (r.bound x c);
  wider = λ a agrees. r.wider a (n.wider a agrees);
  sound = λ a agrees e. r.sound a (n.wider a agrees) (both (value_of Const a term) val (map (value_of Const a) left) other (head_is _ _ [] [] (n.sound a agrees)) e);
  complete = λ a agrees e. let (now, rest) = r.complete a agrees e in
      (n.complete a now (ap (λ z. z ∷ []) (head_is _ _ _ _ rest)), tail_is _ _ _ _ rest);
}
  where
    both : (x y : Val) (xs ys : List Val) → x ≡ y → xs ≡ ys → x ∷ xs ≡ y ∷ ys
    both x y xs ys e f = cc

pub reached_differs : (terms : List Term) (vals : List Val) (given : List (Option Val)) (term : Term) (left : List Term) (val : Val) (other : List Val) (narrow : List (Option Val)) →
    Reached terms vals given (term ∷ left) (val ∷ other) narrow → Differs (term ∷ []) (val ∷ []) narrow → Differs terms vals given
reached_differs terms vals given term left val other narrow r d a agrees e =
    let (now, rest) = r.complete a agrees e in d a now (ap (λ z. z ∷ []) (head_is _ _ _ _ rest))

pub reached_short : (terms : List Term) (vals : List Val) (given : List (Option Val)) (left : List Term) (other : List Val) (narrow : List (Option Val)) →
    Reached terms vals given left other narrow → (length left ≡ length other → ⊥) → Differs terms vals given
reached_short terms vals given left other narrow r uneven a agrees e = uneven (sym (map_length (value_of Const a) left) ∙ ap length (r.complete a agrees e).1)
  where
    map_length : {X Y : Type 0} (f : X → Y) (xs : List X) → length (map f xs) ≡ length xs
    map_length f [] = refl
    map_length f (x ∷ xs) = ap suc (map_length f xs)

pub reached_all : (terms : List Term) (vals : List Val) (given narrow : List (Option Val)) → Reached terms vals given [] [] narrow → Narrows terms vals given narrow
reached_all terms vals given narrow r = record {
  width = r.width;
  kept = r.kept;
  bound = λ x c. ⊎_elim (λ b. b) (λ h. absurd (contains_none (Var x) h)) (r.bound x c);
  wider = r.wider;
  sound = λ a agrees. r.sound a agrees refl;
  complete = λ a agrees e. (r.complete a agrees e).0;
}

pub bind_none : (given : List (Option Val)) (x : ℕ) (v w : Val) (term : Term) (r : Option Val) → term ≡ Var x → terms_bound (term ∷ []) ≤ length given → r ≡ slice_index_or given x r → r ≡ None → w ≡ v → Narrows (term ∷ []) (v ∷ []) given (slice_set given x (Some w))
bind_none given x v w term r is fits got free same =
    subst (λ t. Narrows (t ∷ []) (v ∷ []) given (slice_set given x (Some w))) (sym is)
    (subst (λ u. Narrows (Var x ∷ []) (u ∷ []) given (slice_set given x (Some w))) same
    (bind_new given x w (slice_get-get_or given x r within ∙ ap Some (sym got ∙ free))))
  where
    within : x < length given
    within = let f : terms_bound (Var x ∷ []) ≤ length given = subst (λ t. terms_bound (t ∷ []) ≤ length given) is fits in omega arith

-- a slice taken apart by a pattern
pub apart : {X : Type 0} (xs : List X) (x : X) → 1 ≤ length xs → x ≡ slice_index_or xs 0 x → xs ≡ x ∷ take (length xs - 1) (drop 1 xs)
apart [] x l e = absurd (omega arith)
apart (y ∷ xs) x l e = both y x xs (take (length (y ∷ xs) - 1) xs) (sym e) (sym (all xs (length (y ∷ xs) - 1) (omega arith)))
  where
    both : {X : Type 0} (x y : X) (xs ys : List X) → x ≡ y → xs ≡ ys → x ∷ xs ≡ y ∷ ys
    both x y xs ys e f = cc

    all : {X : Type 0} (xs : List X) (n : ℕ) → length xs ≤ n → take n xs ≡ xs
    all xs n l = grind (arith, common_steps)

pub none_left : {X : Type 0} (xs : List X) → length xs < 1 → xs ≡ []
none_left [] l = refl
none_left (x ∷ xs) l = absurd (omega arith)

module _ (terms : List Term) (vals : List Val) (given : List (Option Val)) (left : List Term) (other : List Val) (narrow : List (Option Val)) (r : Reached terms vals given left other narrow) where
  pub fits_at : (t : Term) → 1 ≤ length left → t ≡ slice_index_or left 0 t → terms_bound (t ∷ []) ≤ length narrow
  fits_at t l e = bound_first t (take (length left - 1) (drop 1 left)) (length narrow) (subst (λ z. terms_bound z ≤ length narrow) (apart left t l e) r.fits)

  module _ (t : Term) (v : Val) (l : 1 ≤ length left) (e : t ≡ slice_index_or left 0 t) (m : 1 ≤ length other) (f : v ≡ slice_index_or other 0 v) where
    here : Reached terms vals given (t ∷ take (length left - 1) (drop 1 left)) (v ∷ take (length other - 1) (drop 1 other)) narrow
    here = subst (λ z. Reached terms vals given (t ∷ take (length left - 1) (drop 1 left)) z narrow) (apart other v m f) (subst (λ z. Reached terms vals given z other narrow) (apart left t l e) r)

    pub more_at : (next : List (Option Val)) → Narrows (t ∷ []) (v ∷ []) narrow next → Reached terms vals given (take (length left - 1) (drop 1 left)) (take (length other - 1) (drop 1 other)) next
    unfolding here
    more_at next n = reached_more terms vals given t (take (length left - 1) (drop 1 left)) v (take (length other - 1) (drop 1 other)) narrow next here n

    pub differs_at : Differs (t ∷ []) (v ∷ []) narrow → Differs terms vals given
    unfolding here
    differs_at d = reached_differs terms vals given t (take (length left - 1) (drop 1 left)) v (take (length other - 1) (drop 1 other)) narrow here d

  pub all_at : length left < 1 → length other < 1 → Narrows terms vals given narrow
  all_at l m = reached_all terms vals given narrow (subst (λ z. Reached terms vals given [] z narrow) (none_left other m) (subst (λ z. Reached terms vals given z other narrow) (none_left left l) r))

pub some_left : (b : Bool) (n : ℕ) → b ≡ (n == 0) → b ≡ false → 0 < n
some_left b n e f = grind (arith, nat_tests)

pub no_left : (b : Bool) (n : ℕ) → b ≡ (n == 0) → b ≡ true → n < 1
no_left b n e f = grind (arith, nat_tests)

-- one place of the terms and of the values
pub place_fits : (terms : List Term) (i : ℕ) (term : Term) (n : ℕ) → i < length terms → term ≡ slice_index_or terms i term → terms_bound terms ≤ n → terms_bound (term ∷ []) ≤ n
place_fits [] i term n l e f = absurd (omega arith)
place_fits (first ∷ terms) zero term n l e f = subst (λ t. terms_bound (t ∷ []) ≤ n) (sym e) (bound_first first terms n f)
place_fits (first ∷ terms) (suc i) term n l e f = place_fits terms i term n (omega arith) e (bound_rest first terms n f)

value_there : (f : Term → Val) (terms : List Term) (vals : List Val) (i : ℕ) (term : Term) (val : Val) → i < length terms → term ≡ slice_index_or terms i term → val ≡ slice_index_or vals i val → map f terms ≡ vals → f term ≡ val
value_there f [] vals i term val l e g same = absurd (omega arith)
value_there f (first ∷ terms) [] i term val l e g same = absurd (cc)
value_there f (first ∷ terms) (other ∷ vals) zero term val l e g same = ap f e ∙ head_is _ _ _ _ same ∙ sym g
value_there f (first ∷ terms) (other ∷ vals) (suc i) term val l e g same = value_there f terms vals i term val (omega arith) e g (tail_is _ _ _ _ same)

pub place_differs : (terms : List Term) (vals : List Val) (given : List (Option Val)) (i : ℕ) (term : Term) (val : Val) → i < length terms → term ≡ slice_index_or terms i term → val ≡ slice_index_or vals i val → Differs (term ∷ []) (val ∷ []) given → Differs terms vals given
place_differs terms vals given i term val l e g d a agrees same = d a agrees (ap (λ z. z ∷ []) (value_there (value_of Const a) terms vals i term val l e g same))

pub length_differs : (terms : List Term) (vals : List Val) (given : List (Option Val)) → (length terms ≡ length vals → ⊥) → Differs terms vals given
length_differs terms vals given uneven a agrees same = uneven (sym (map_length (value_of Const a) terms) ∙ ap length same)
  where
    map_length : {X Y : Type 0} (f : X → Y) (xs : List X) → length (map f xs) ≡ length xs
    map_length f [] = refl
    map_length f (x ∷ xs) = ap suc (map_length f xs)
