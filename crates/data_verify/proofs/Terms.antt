-- Terms against a row, from the front, and the values that a row gives variables.
use Rattle.std.proofs.Common.{◌≡◌, ◌↔◌, ◌⊎◌, ◌==◌, IsTrue, ℕ, zero, suc, ◌-◌, ◌<◌, ◌≤◌, List, [], ◌∷◌, map, length, take, drop, Some, Bool, cond, eqb, refl, sym, ap, ◌∙◌, subst, ⊎_elim, arith, Contains, slice_get, slice_index_or}
use Rattle.std.proofs.lemmas.Bool.{cases_eq, eq-eqb, ne_eqb}
use Rattle.std.proofs.lemmas.List.{length-map}
use Rattle.std.proofs.lemmas.Option.{slice_get-get_or}
use Rattle.lists.proofs.Members.{contains_cases, map_got, some_injective, cons_same, head_is, tail_is}
use Rattle.meaning.specs.declared.types.Term.{Term}
use Rattle.meaning.specs.declared.types.Term.TheVariants.{Var, Const}
use Rattle.meaning.specs.Matching.{value_of, itself}
use Rattle.meaning_laws.proofs.Deciding.{same_values}
use Rattle.homomorphism.proofs.Binding.{apart, none_left, no_left, var_is}
use Rattle.data_verify.specs.Inclusion.{Fits, StandsAt, FitsBefore}
use Rattle.data_verify.specs.Keys.{reading}

pub const_var : (c : List ℕ) (x : ℕ) → Const c ≡ Var x → ⊥
const_var c x e = cc

-- the first of the terms
pub reading_same : (x : ℕ) (term : Term) (value : List ℕ) (terms : List Term) (row : List (List ℕ)) → term ≡ Var x → reading (term ∷ terms) (value ∷ row) x ≡ value
reading_same x (Var y) value terms row e = ap (λ b. cond b value (reading terms row x)) (eq-eqb y x (var_is y x e))
reading_same x (Const c) value terms row e = absurd (const_var c x e)

pub reading_other : (x : ℕ) (term : Term) (value : List ℕ) (terms : List Term) (row : List (List ℕ)) → (term ≡ Var x → ⊥) → reading (term ∷ terms) (value ∷ row) x ≡ reading terms row x
reading_other x (Var y) value terms row differ = ap (λ b. cond b value (reading terms row x)) (ne_eqb y x (λ e. differ (ap Var e)))
reading_other x (Const c) value terms row differ = refl

reading_none : (x : ℕ) (terms : List Term) → reading terms [] x ≡ []
reading_none x [] = refl
reading_none x (Var y ∷ terms) = refl
reading_none x (Const c ∷ terms) = refl

-- a variable of terms that a row fits has the value that the row gives it
pub reading_is : (a : ℕ → List ℕ) (terms : List Term) (row : List (List ℕ)) (x : ℕ) → map (value_of itself a) terms ≡ row → Contains terms (Var x) → reading terms row x ≡ a x
reading_is a [] row x e c = absurd (omega arith)
reading_is a (term ∷ terms) [] x e c = absurd (cc)
reading_is a (Var y ∷ terms) (value ∷ row) x e c =
    ⊎_elim (λ same. reading_same x (Var y) value terms row (ap Var same) ∙ sym (head_is (a y) value _ row e) ∙ ap a same)
    (λ differ. reading_other x (Var y) value terms row (λ f. differ (var_is y x f)) ∙ ⊎_elim (λ f. absurd (differ (var_is y x f))) (λ h. reading_is a terms row x (tail_is _ _ _ row e) h) (contains_cases (Var y) terms (Var x) c))
    (cases_eq y x)
reading_is a (Const d ∷ terms) (value ∷ row) x e c =
    ⊎_elim (λ f. absurd (const_var d x f)) (λ h. reading_is a terms row x (tail_is _ _ _ row e) h) (contains_cases (Const d) terms (Var x) c)

pub stands_rest : (x : ℕ) (value : List ℕ) (term : Term) (terms : List Term) (other : List ℕ) (row : List (List ℕ)) → (term ≡ Var x → other ≡ value) → StandsAt x value (term ∷ terms) (other ∷ row) ↔ StandsAt x value terms row
stands_rest x value term terms other row first = ((λ s k w e f. s (suc k) w e f), back)
  where
    back : StandsAt x value terms row → StandsAt x value (term ∷ terms) (other ∷ row)
    back s zero w e f = sym (some_injective other w f) ∙ first (some_injective term (Var x) e)
    back s (suc k) w e f = s k w e f

fits_both : (term : Term) (value : List ℕ) (terms : List Term) (row : List (List ℕ)) → FitsBefore term value terms row → Fits terms row → Fits (term ∷ terms) (value ∷ row)
fits_both (Const c) value terms row first (a, e) = (a, cons_same c value _ row first e)
fits_both (Var x) value terms row first (a, e) = (changed, cons_same (changed x) value _ row (ap (λ b. cond b value (a x)) (eq-eqb x x refl)) (sym (same_values itself a changed terms same) ∙ e))
  where
    changed : ℕ → List ℕ
    changed y = cond (eqb y x) value (a y)

    here : Contains terms (Var x) → a x ≡ value
    here (k, l, f) =
        let at : slice_get terms k ≡ Some (Var x) = slice_get-get_or terms k (Var x) l ∙ ap Some f in
        first k (a x) at (ap (λ z. slice_get z k) (sym e) ∙ map_got (value_of itself a) terms k (Var x) at)

    same : (y : ℕ) → Contains terms (Var y) → a y ≡ changed y
    same y c =
        ⊎_elim (λ f. ap a f ∙ here (subst (λ z. Contains terms (Var z)) f c) ∙ sym (ap (λ b. cond b value (a y)) (eq-eqb y x f)))
        (λ differ. sym (ap (λ b. cond b value (a y)) (ne_eqb y x differ))) (cases_eq y x)

pub fits_rest : (term : Term) (value : List ℕ) (terms : List Term) (row : List (List ℕ)) → FitsBefore term value terms row → Fits (term ∷ terms) (value ∷ row) ↔ Fits terms row
fits_rest term value terms row first = ((λ (a, e). (a, tail_is _ _ _ row e)), (λ f. fits_both term value terms row first f))

pub fits_none : Fits [] []
fits_none = ((λ x. []), refl)

pub fits_short : (terms : List Term) (row : List (List ℕ)) → Fits terms row → length terms ≡ length row
fits_short terms row (a, e) = sym (length-map terms (value_of itself a)) ∙ ap length e

-- one turn of a loop that takes terms and a row apart
module _ (left : List Term) (values : List (List ℕ)) (term : Term) (value : List ℕ) (l : 1 ≤ length left) (e : term ≡ slice_index_or left 0 term) (m : 1 ≤ length values) (f : value ≡ slice_index_or values 0 value) where
  abbrev later : List Term
  later = take (length left - 1) (drop 1 left)

  abbrev others : List (List ℕ)
  others = take (length values - 1) (drop 1 values)

  there : (P : List Term → List (List ℕ) → Type 0) → P left values → P (term ∷ later) (value ∷ others)
  there P p = subst (P (term ∷ later)) (apart values value m f) (subst (λ z. P z values) (apart left term l e) p)

  back : (P : List Term → List (List ℕ) → Type 0) → P (term ∷ later) (value ∷ others) → P left values
  back P p = subst (λ z. P z values) (sym (apart left term l e)) (subst (P (term ∷ later)) (sym (apart values value m f)) p)

  pub rest_of : (P : List Term → List (List ℕ) → Type 0) (Q : Type 0) → (Q ↔ P left values) → (P (term ∷ later) (value ∷ others) ↔ P later others) → Q ↔ P later others
  unfolding there back
  rest_of P Q before now = ((λ q. now.0 (there P (before.0 q))), (λ p. before.1 (back P (now.1 p))))

-- where the terms or the row are at their end
pub reading_end : (x : ℕ) (left : List Term) (values : List (List ℕ)) → (length left < 1) ⊎ (length values < 1) → reading left values x ≡ []
reading_end x left values short = ⊎_elim (λ l. ap (λ z. reading z values x) (none_left left l)) (λ m. ap (λ z. reading left z x) (none_left values m) ∙ reading_none x left) short

pub fits_not : (left : List Term) (values : List (List ℕ)) → 1 ≤ length left → length values < 1 → Fits left values → ⊥
fits_not left values l m f = let same = fits_short left values f in omega arith

pub fits_end : (left : List Term) (values : List (List ℕ)) (b : Bool) → length left < 1 → b ≡ (length values == 0) → IsTrue b ↔ Fits left values
fits_end left values b l e = (
  (λ t. subst (λ z. Fits z values) (sym (none_left left l)) (subst (Fits []) (sym (none_left values (no_left b (length values) e t))) fits_none)),
  (λ f. let same = fits_short left values f in e ∙ eq-eqb (length values) 0 (omega arith)),
)
