-- The methods of each relation, method after method.
use Rattle.std.proofs.Common.{◌≡◌, ◌≢◌, ℕ, zero, suc, List, [], ◌∷◌, ◌++◌, length, refl, sym, ◌∙◌, subst, ⊎_elim, arith}
use Rattle.std.specs.Prelude.{Contains, Some, slice_get}
use Rattle.std.proofs.lemmas.Bool.{cases_eq, cases_lt}
use Rattle.std.proofs.lemmas.Option.{slice_get_within}
use Rattle.std.proofs.lemmas.List.{length_push}
use Rattle.std.proofs.lemmas.List.Elements.{Contains-append_left, Contains-push, Contains-push_cases}
use Rattle.lists.proofs.Members.{got_push, got_before, some_injective, contains_none}
use Rattle.homomorphism.proofs.Members.{distinct_push}
use Rattle.meaning.specs.declared.types.Method.{Method}
use Rattle.meaning.specs.Search.{AreDistinct}
use Rattle.accessible_copy.specs.Methods.{methods_of, IsMethodIndex}

-- one empty list more
pub lists_grown : (lists : List (List ℕ)) (rel : ℕ) → methods_of (lists ++ [] ∷ []) rel ≡ methods_of lists rel
lists_grown [] zero = refl
lists_grown [] (suc rel) = refl
lists_grown (x ∷ lists) zero = refl
lists_grown (x ∷ lists) (suc rel) = lists_grown lists rel

none_of : (rel : ℕ) → methods_of [] rel ≡ []
none_of zero = refl
none_of (suc rel) = refl

pub index_none : IsMethodIndex [] []
index_none = record {
  each = λ rel number c. absurd (contains_none number (subst (λ (l : List ℕ). Contains l number) (none_of rel) c));
  all = λ number method e. absurd (let l = slice_get_within [] number method e in omega arith);
  once = λ rel. subst (λ (l : List ℕ). AreDistinct l) (sym (none_of rel)) tt;
}

module _ (methods : List Method) (method : Method) (now next : List (List ℕ)) (is : IsMethodIndex methods now)
    (here : methods_of next method.rel ≡ methods_of now method.rel ++ length methods ∷ []) (others : (other : ℕ) → other ≢ method.rel → methods_of next other ≡ methods_of now other) where
  abbrev Named : ℕ → ℕ → Type 0
  Named rel number = (m : Method) × (slice_get (methods ++ method ∷ []) number ≡ Some m) × (m.rel ≡ rel)

  kept : (rel number : ℕ) → Contains (methods_of now rel) number → Named rel number
  kept rel number c = let (m, e, r) = is.each rel number c in (m, got_before methods (method ∷ []) number (slice_get_within methods number m e) ∙ e, r)

  last : Named method.rel (length methods)
  last = (method, got_push methods method, refl)

  here_each : (number : ℕ) → Contains (methods_of next method.rel) number → Named method.rel number
  here_each number c = ⊎_elim (λ h. kept method.rel number h) (λ same. subst (Named method.rel) same last)
      (Contains-push_cases (methods_of now method.rel) (length methods) number (subst (λ (l : List ℕ). Contains l number) here c))

  each : (rel number : ℕ) → Contains (methods_of next rel) number → Named rel number
  each rel number c = ⊎_elim (λ same. subst (λ r. Named r number) (sym same) (here_each number (subst (λ r. Contains (methods_of next r) number) same c)))
      (λ differ. kept rel number (subst (λ (l : List ℕ). Contains l number) (others rel differ) c)) (cases_eq rel method.rel)

  old_there : (rel number : ℕ) → Contains (methods_of now rel) number → Contains (methods_of next rel) number
  old_there rel number c = ⊎_elim
      (λ same. subst (λ r. Contains (methods_of next r) number) (sym same) (subst (λ (l : List ℕ). Contains l number) (sym here)
      (Contains-append_left (methods_of now method.rel) (length methods ∷ []) number (subst (λ r. Contains (methods_of now r) number) same c))))
      (λ differ. subst (λ (l : List ℕ). Contains l number) (sym (others rel differ)) c) (cases_eq rel method.rel)

  last_there : Contains (methods_of next method.rel) (length methods)
  last_there = subst (λ (l : List ℕ). Contains l (length methods)) (sym here) (Contains-push (methods_of now method.rel) (length methods))

  all : (number : ℕ) (m : Method) → slice_get (methods ++ method ∷ []) number ≡ Some m → Contains (methods_of next m.rel) number
  all number m e = ⊎_elim (λ low. old_there m.rel number (is.all number m (sym (got_before methods (method ∷ []) number low) ∙ e)))
      (λ high.
      let within = slice_get_within (methods ++ method ∷ []) number m e in
      let long = length_push methods method in
      let at : number ≡ length methods = omega arith in
      let same : method ≡ m = some_injective method m (sym (got_push methods method) ∙ subst (λ n. slice_get (methods ++ method ∷ []) n ≡ Some m) at e) in
      subst (λ n. Contains (methods_of next m.rel) n) (sym at) (subst (λ (k : Method). Contains (methods_of next k.rel) (length methods)) same last_there))
      (cases_lt number (length methods))

  once : (rel : ℕ) → AreDistinct (methods_of next rel)
  once rel = ⊎_elim
      (λ same. subst (λ r. AreDistinct (methods_of next r)) (sym same) (subst (λ (l : List ℕ). AreDistinct l) (sym here)
      (distinct_push (methods_of now method.rel) (length methods) (is.once method.rel) (λ c.
      let (m, e, r) = is.each method.rel (length methods) c in
      let within = slice_get_within methods (length methods) m e in omega arith))))
      (λ differ. subst (λ (l : List ℕ). AreDistinct l) (sym (others rel differ)) (is.once rel)) (cases_eq rel method.rel)

  pub index_more : IsMethodIndex (methods ++ method ∷ []) next
  index_more = record { each = each; all = all; once = once }
