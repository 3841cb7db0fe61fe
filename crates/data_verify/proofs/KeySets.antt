-- The shared variables of terms, and the keys of facts, one after another.
use Rattle.std.proofs.Common.{◌≡◌, ◌↔◌, ℕ, ◌+◌, ◌<◌, List, [], ◌∷◌, ◌++◌, length, take, slice_index_or, Bool, sym, ap, ◌∙◌, subst, inl, inr, ⊎_elim, Contains}
use Rattle.std.specs.Prelude.{IsTrue, not}
use Rattle.std.proofs.lemmas.Bool.{not-true}
use Rattle.std.proofs.lemmas.List.Elements.{Contains-append_left, Contains-push, Contains-push_cases}
use Rattle.lists.proofs.Booleans.{never_true}
use Rattle.lists.proofs.Members.{contains_none}
use Rattle.lists.proofs.Places.{take_indexed}
use Rattle.meaning.specs.declared.types.Term.{Term}
use Rattle.meaning.specs.declared.types.Term.TheVariants.{Var}
use Rattle.meaning.specs.declared.types.Atom.{Atom}
use Rattle.meaning.specs.declared.types.Fact.{Fact}
use Rattle.homomorphism.proofs.Binding.{var_is}
use Rattle.homomorphism.proofs.Covering.{denied}
use Rattle.data_verify.specs.Inclusion.{FitsAtom, AreShared, AreKeys, IsWithout}
use Rattle.data_verify.specs.Keys.{key_of, Holds, Adds}
use Rattle.data_verify.specs.declared.key_set.KeySet.{KeySet}
use Rattle.data_verify.proofs.Held.{none_held}

pub none_more : {X : Type 0} (xs : List X) (i : ℕ) (x y : X) → i < length xs → x ≡ slice_index_or xs i x → (x ≡ y → ⊥) → (Contains (take i xs) y → ⊥) → Contains (take (i + 1) xs) y → ⊥
none_more xs i x y l is differ none c = ⊎_elim none differ (Contains-push_cases (take i xs) x y (subst (λ z. Contains z y) (take_indexed xs i x l is) c))

module _ (body head : List Term) (i : ℕ) (term : Term) (l : i < length head) (is : term ≡ slice_index_or head i term) (variables : List ℕ) (are : AreShared body (take i head) variables) where
  pub shared_skip : ((x : ℕ) → term ≡ Var x → Contains body (Var x) → ⊥) → AreShared body (take (i + 1) head) variables
  shared_skip not = subst (λ z. AreShared body z variables) (sym (take_indexed head i term l is)) (λ x. (
    (λ c. let (of_head, of_body) = (are x).0 c in (Contains-append_left (take i head) (term ∷ []) (Var x) of_head, of_body)),
    (λ (of_head, of_body). ⊎_elim (λ h. (are x).1 (h, of_body)) (λ e. absurd (not x e of_body)) (Contains-push_cases (take i head) term (Var x) of_head)),
  ))

  pub shared_lacks : (y : ℕ) → term ≡ Var y → (Contains body (Var y) → ⊥) → AreShared body (take (i + 1) head) variables
  unfolding shared_skip
  shared_lacks y e lacks = shared_skip (λ x f c. lacks (subst (Contains body) (sym f ∙ e) c))

  pub shared_more : (y : ℕ) → term ≡ Var y → Contains body (Var y) → AreShared body (take (i + 1) head) (variables ++ y ∷ [])
  shared_more y e among = subst (λ z. AreShared body z (variables ++ y ∷ [])) (sym (take_indexed head i term l is)) (λ x. (
    (λ c. ⊎_elim (λ h. let (of_head, of_body) = (are x).0 h in (Contains-append_left (take i head) (term ∷ []) (Var x) of_head, of_body))
        (λ same. subst (λ z. Contains (take i head ++ term ∷ []) (Var z) × Contains body (Var z)) same (subst (Contains (take i head ++ term ∷ [])) e (Contains-push (take i head) term), among))
        (Contains-push_cases variables y x c)),
    (λ (of_head, of_body). ⊎_elim (λ h. Contains-append_left variables (y ∷ []) x ((are x).1 (h, of_body)))
        (λ f. subst (Contains (variables ++ y ∷ [])) (var_is y x (sym e ∙ f)) (Contains-push variables y)) (Contains-push_cases (take i head) term (Var x) of_head)),
  ))

pub without_is : (body head : Atom) (variables : List ℕ) (keys : KeySet) (fact : Fact) (held : Bool) → FitsAtom body fact →
    (IsTrue held ↔ Holds head.terms variables keys (key_of body.terms variables fact.row)) → IsTrue (not held) ↔ IsWithout body head variables keys fact
without_is body head variables keys fact held fits same = (
  (λ t. record { fits = fits; absent = denied held same (not-true held t) }),
  (λ w. ap not (never_true held (λ t. w.absent (same.0 t)))),
)

pub keys_none : (atom : Atom) (variables : List ℕ) (keys : KeySet) → keys.firsts.entries ≡ [] → keys.others.keys ≡ [] → AreKeys [] atom variables keys
keys_none atom variables keys firsts others key = (
  (λ h. absurd (none_held atom.terms variables keys key firsts others h)),
  (λ (fact, c, fits, same). absurd (contains_none fact c)),
)

module _ (facts : List Fact) (i : ℕ) (fact : Fact) (l : i < length facts) (is : fact ≡ slice_index_or facts i fact) (atom : Atom) (variables : List ℕ) (was : KeySet) (are : AreKeys (take i facts) atom variables was) where
  pub keys_skip : (FitsAtom atom fact → ⊥) → AreKeys (take (i + 1) facts) atom variables was
  keys_skip not = subst (λ z. AreKeys z atom variables was) (sym (take_indexed facts i fact l is)) (λ key. (
    (λ h. let (one, c, fits, e) = (are key).0 h in (one, Contains-append_left (take i facts) (fact ∷ []) one c, fits, e)),
    (λ (one, c, fits, e). ⊎_elim (λ h. (are key).1 (one, h, fits, e)) (λ same. absurd (not (subst (FitsAtom atom) (sym same) fits))) (Contains-push_cases (take i facts) fact one c)),
  ))

  pub keys_more : (now : KeySet) → FitsAtom atom fact → Adds atom.terms variables was (key_of atom.terms variables fact.row) now → AreKeys (take (i + 1) facts) atom variables now
  keys_more now fits adds = subst (λ z. AreKeys z atom variables now) (sym (take_indexed facts i fact l is)) (λ key. (
    (λ h. ⊎_elim (λ old. let (one, c, f, e) = (are key).0 old in (one, Contains-append_left (take i facts) (fact ∷ []) one c, f, e))
        (λ e. (fact, Contains-push (take i facts) fact, fits, e)) ((adds key).0 h)),
    (λ (one, c, f, e). ⊎_elim (λ h. (adds key).1 (inl ((are key).1 (one, h, f, e))))
        (λ g. (adds key).1 (inr (ap (λ (z : Fact). key_of atom.terms variables z.row) g ∙ e))) (Contains-push_cases (take i facts) fact one c)),
  ))
