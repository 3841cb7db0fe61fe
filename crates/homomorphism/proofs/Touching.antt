-- Values that are given in place, and taken back.
use Rattle.std.proofs.Common.{◌≡◌, ◌⊎◌, ℕ, zero, suc, ◌+◌, ◌-◌, ◌<◌, ◌≤◌, List, [], ◌∷◌, ◌++◌, length, Some, None, Option, refl, sym, ap, ◌∙◌, subst, inl, inr, ⊎_elim, arith, Contains, slice_get, slice_set, slice_index_or, take, drop}
use Rattle.std.proofs.lemmas.List.Elements.{Contains-append_left, Contains-push, Contains-push_cases}
use Rattle.std.proofs.lemmas.Option.{slice_get_within, slice_get-get_or}
use Rattle.lists.proofs.Members.{contains_there, contains_cases, some_injective, contains_none}
use Rattle.lists.proofs.Places.{take_indexed}
use Rattle.meaning.specs.declared.types.Term.{Term}
use Rattle.meaning.specs.declared.types.Term.TheVariants.{Var}
use Rattle.meaning.specs.declared.types.Val.{Val}
use Rattle.meaning.specs.Triggers.{terms_bound}
use Rattle.homomorphism.specs.Widening.{Touches, AreFree}
use Rattle.homomorphism.proofs.Binding.{got_set_same, got_set_other, length_set, same_or_not, apart, var_is}

-- a variable without a value gets one
pub touched_bind : (given : List (Option Val)) (x : ℕ) (w : Val) (term : Term) (r : Option Val) → term ≡ Var x → terms_bound (term ∷ []) ≤ length given → r ≡ slice_index_or given x r → r ≡ None →
    Touches (term ∷ []) given (slice_set given x (Some w))
touched_bind given x w term r is fits got free = (
  length_set given x (Some w),
  λ y. ⊎_elim (λ same. inr ((0, omega arith, is ∙ ap Var (sym same)), ap (slice_get given) same ∙ slice_get-get_or given x r within ∙ ap Some (sym got ∙ free)))
      (λ differ. inl (got_set_other given y x (Some w) differ)) (same_or_not y x),
)
  where
    within : x < length given
    within = let f : terms_bound (Var x ∷ []) ≤ length given = subst (λ t. terms_bound (t ∷ []) ≤ length given) is fits in omega arith

-- one term more
pub touched_more : (terms left : List Term) (t : Term) (given narrow next : List (Option Val)) → ((u : Term) → Contains left u → Contains terms u) → 1 ≤ length left → t ≡ slice_index_or left 0 t →
    Touches terms given narrow → Touches (t ∷ []) narrow next → Touches terms given next
touched_more terms left t given narrow next inside l e r n = (
  n.0 ∙ r.0,
  λ x. ⊎_elim (λ same. ⊎_elim (λ h. inl (same ∙ h)) (λ h. inr h) (r.1 x))
      (λ (c, free). ⊎_elim (λ h. inr (within x c, sym h ∙ free)) (λ h. inr h) (r.1 x)) (n.1 x),
)
  where
    within : (x : ℕ) → Contains (t ∷ []) (Var x) → Contains terms (Var x)
    within x c = ⊎_elim (λ e. subst (Contains terms) e (inside t first)) (λ h. absurd (contains_none (Var x) h)) (contains_cases t [] (Var x) c)
      where
        first : Contains left t
        first = (0, l, sym e)

pub inside_rest : (terms left : List Term) (t : Term) → ((u : Term) → Contains left u → Contains terms u) → 1 ≤ length left → t ≡ slice_index_or left 0 t →
    (u : Term) → Contains (take (length left - 1) (drop 1 left)) u → Contains terms u
inside_rest terms left t inside l e u c = inside u (subst (λ z. Contains z u) (sym (apart left t l e)) (contains_there t (take (length left - 1) (drop 1 left)) u c))

-- the variables without a value, term by term
pub free_none : (given : List (Option Val)) → AreFree [] given []
free_none given = record {
  all = λ x c e. absurd (contains_none (Var x) c);
  without = λ x c. absurd (contains_none x c);
}

module _ (terms : List Term) (i : ℕ) (term : Term) (given : List (Option Val)) (free : List ℕ) (l : i < length terms) (is : term ≡ slice_index_or terms i term) (r : AreFree (take i terms) given free) where
  cases : (x : ℕ) → Contains (take (i + 1) terms) (Var x) → Contains (take i terms) (Var x) ⊎ (term ≡ Var x)
  cases x c = Contains-push_cases (take i terms) term (Var x) (subst (λ done. Contains done (Var x)) (take_indexed terms i term l is) c)

  pub free_skip : ((x : ℕ) → term ≡ Var x → slice_get given x ≡ Some None → ⊥) → AreFree (take (i + 1) terms) given free
  unfolding cases
  free_skip not = record {
    all = λ x c e. ⊎_elim (λ h. r.all x h e) (λ same. absurd (not x same e)) (cases x c);
    without = r.without;
  }

  pub free_push : (y : ℕ) → (term ≡ Var y) × (slice_get given y ≡ Some None) → AreFree (take (i + 1) terms) given (free ++ y ∷ [])
  unfolding cases
  free_push y (var, none) = record {
    all = λ x c e. ⊎_elim (λ h. Contains-append_left free (y ∷ []) x (r.all x h e)) (λ same. subst (Contains (free ++ y ∷ [])) (var_is y x (sym var ∙ same)) (Contains-push free y)) (cases x c);
    without = λ x c. ⊎_elim (λ h. r.without x h) (λ e. subst (λ z. slice_get given z ≡ Some None) e none) (Contains-push_cases free y x c);
  }

-- what stands within a list does not depend on what is said of places behind its end
pub default : {X : Type 0} (xs : List X) (i : ℕ) (d e : X) → i < length xs → slice_index_or xs i d ≡ slice_index_or xs i e
default [] i d e l = absurd (omega arith)
default (x ∷ xs) zero d e l = refl
default (x ∷ xs) (suc i) d e l = default xs i d e (omega arith)

-- the values of some variables taken back
abbrev pub AreReleased : List ℕ → List (Option Val) → List (Option Val) → Type 0
AreReleased free before now =
    (length now ≡ length before)
    × ((x : ℕ) → ((slice_get now x ≡ slice_get before x) × (Contains free x → ⊥)) ⊎ (Contains free x × (slice_get now x ≡ Some None)))

pub released_none : (given : List (Option Val)) → AreReleased [] given given
released_none given = (refl, λ x. inl (refl, λ c. contains_none x c))

pub released_more : (free : List ℕ) (i v : ℕ) (before now : List (Option Val)) → i < length free → v ≡ slice_index_or free i v → v < length now →
    AreReleased (take i free) before now → AreReleased (take (i + 1) free) before (slice_set now v None)
released_more free i v before now l is within (width, r) = (
  length_set now v None ∙ width,
  λ x. ⊎_elim
      (λ same. inr (subst (Contains (take (i + 1) free)) (sym same) here, ap (slice_get (slice_set now v None)) same ∙ got_set_same now v None within))
      (λ differ. ⊎_elim (λ (e, not). inl (got_set_other now x v None differ ∙ e, λ c. ⊎_elim not (λ same. differ (sym same)) (Contains-push_cases (take i free) v x (subst (λ z. Contains z x) one_more c))))
      (λ (c, e). inr (subst (λ z. Contains z x) (sym one_more) (Contains-append_left (take i free) (v ∷ []) x c), got_set_other now x v None differ ∙ e)) (r x)) (same_or_not x v),
)
  where
    one_more : take (i + 1) free ≡ take i free ++ v ∷ []
    one_more = take_indexed free i v l is

    here : Contains (take (i + 1) free) v
    here = subst (λ z. Contains z v) (sym one_more) (Contains-push (take i free) v)

same_lists : {X : Type 0} (xs ys : List X) → ((i : ℕ) → slice_get xs i ≡ slice_get ys i) → xs ≡ ys
same_lists [] [] same = refl
same_lists [] (y ∷ ys) same = absurd (let e = same 0 in cc)
same_lists (x ∷ xs) [] same = absurd (let e = same 0 in cc)
same_lists (x ∷ xs) (y ∷ ys) same =
    let first : x ≡ y = some_injective x y (same 0) in
    let rest : xs ≡ ys = same_lists xs ys (λ i. same (suc i)) in
    cc

pub restored : (terms : List Term) (before mid after : List (Option Val)) (free : List ℕ) → AreFree terms before free → Touches terms before mid → AreReleased free mid after → after ≡ before
restored terms before mid after free f t r = same_lists after before (λ x. ⊎_elim
    (λ (e, not). ⊎_elim (λ h. e ∙ h) (λ (c, g). absurd (not (f.all x c g))) (t.1 x))
    (λ (c, e). e ∙ sym (f.without x c)) (r.1 x))

pub free_within : (terms : List Term) (given : List (Option Val)) (free : List ℕ) → AreFree terms given free → (x : ℕ) → Contains free x → x < length given
free_within terms given free f x c = slice_get_within given x None (f.without x c)
