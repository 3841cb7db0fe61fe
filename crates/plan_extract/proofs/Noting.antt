-- The first exposures of labels, while they are noted.
use Rattle.std.proofs.Common.{◌≡◌, ◌⊎◌, ℕ, List, [], ◌∷◌, ◌++◌, length, Some, None, Option, refl, sym, ◌∙◌, subst, inl, inr, ⊎_elim, arith}
use Rattle.std.specs.Prelude.{Contains, slice_get}
use Rattle.std.specs.Ordering.{nat_cmp}
use Rattle.std.specs.BTreeMap.{BTreeMap, get}
use Rattle.std.proofs.lemmas.List.Elements.{Contains-push_cases, Contains-push, Contains-append_left}
use Rattle.std.proofs.lemmas.Option.{slice_get_within}
use Rattle.lists.proofs.Members.{contains_got, got_push, got_before}
use Rattle.meaning.specs.declared.types.Val.{Val}
use Rattle.meaning.specs.declared.types.Val.TheVariants.{Const, Label}
use Rattle.meaning.specs.Extract.{Exposure}
use Rattle.plan_extract.specs.Resting.{IsFirstWith}
use Rattle.plan_extract.specs.Passes.{AreOrigins}

-- the labels of the values that had no number have this one
pub record Noted (old now : BTreeMap ℕ ℕ) (vals : List Val) (number : ℕ) : Type 0 where
  pub kept : (label n : ℕ) → get nat_cmp old label ≡ Some n → get nat_cmp now label ≡ Some n
  pub all : (label : ℕ) → get nat_cmp now label ≡ None → Contains vals (Label label) → ⊥
  pub only : (label n : ℕ) → get nat_cmp now label ≡ Some n → (get nat_cmp old label ≡ Some n) ⊎ ((n ≡ number) × (get nat_cmp old label ≡ None) × Contains vals (Label label))

pub noted_none : (m : BTreeMap ℕ ℕ) (number : ℕ) → Noted m m [] number
noted_none m number = record { kept = λ label n e. e; all = λ label e c. omega arith; only = λ label n e. inl e }

pub either_option : (o : Option ℕ) → (o ≡ None) ⊎ ((n : ℕ) × (o ≡ Some n))
either_option None = inl refl
either_option (Some n) = inr (n, refl)

module _ (old now next : BTreeMap ℕ ℕ) (vals : List Val) (number : ℕ) (so_far : Noted old now vals number) where
  -- one more value, a constant
  pub noted_const : (text : List ℕ) → Noted old now (vals ++ Const text ∷ []) number
  noted_const text = record {
    kept = so_far.kept;
    all = λ label e c. ⊎_elim (λ h. so_far.all label e h) (λ same. absurd (cc)) (Contains-push_cases vals (Const text) (Label label) c);
    only = λ label n e. ⊎_elim (λ h. inl h) (λ (a, b, c). inr (a, b, Contains-append_left vals (Const text ∷ []) (Label label) c)) (so_far.only label n e);
  }

  -- or a label
  pub noted_label : (label : ℕ) → ((q n : ℕ) → get nat_cmp now q ≡ Some n → get nat_cmp next q ≡ Some n) → (get nat_cmp next label ≡ None → ⊥) →
      ((q n : ℕ) → get nat_cmp next q ≡ Some n → (get nat_cmp now q ≡ Some n) ⊎ ((n ≡ number) × (get nat_cmp now q ≡ None) × (q ≡ label))) → Noted old next (vals ++ Label label ∷ []) number
  noted_label label kept there only = record {
    kept = λ q n e. kept q n (so_far.kept q n e);
    all = λ q e c. ⊎_elim (λ h. so_far.all q (still q e) h) (λ same. let is : label ≡ q = cc in there (subst (λ k. get nat_cmp next k ≡ None) (sym is) e)) (Contains-push_cases vals (Label label) (Label q) c);
    only = λ q n e. ⊎_elim (λ h. ⊎_elim (λ o. inl o) (λ (a, b, c). inr (a, b, Contains-append_left vals (Label label ∷ []) (Label q) c)) (so_far.only q n h))
        (λ (a, b, is). inr (a, was q b, subst (λ k. Contains (vals ++ Label label ∷ []) (Label k)) (sym is) (Contains-push vals (Label label)))) (only q n e);
  }
    where
      still : (q : ℕ) → get nat_cmp next q ≡ None → get nat_cmp now q ≡ None
      still q e = ⊎_elim (λ none. none) (λ (n, some). let on : get nat_cmp next q ≡ Some n = kept q n some in let off : None ≡ Some n = sym e ∙ on in absurd (cc)) (either_option (get nat_cmp now q))

      was : (q : ℕ) → get nat_cmp now q ≡ None → get nat_cmp old q ≡ None
      was q e = ⊎_elim (λ none. none) (λ (n, some). let on : get nat_cmp now q ≡ Some n = so_far.kept q n some in let off : None ≡ Some n = sym e ∙ on in absurd (cc)) (either_option (get nat_cmp old q))

-- ---- one more exposure

first_later : (exposures : List Exposure) (x : Exposure) (label number : ℕ) (e : Exposure) → IsFirstWith exposures label number e → IsFirstWith (exposures ++ x ∷ []) label number e
first_later exposures x label number e is =
    let within = slice_get_within exposures number e is.at in
    record {
      at = got_before exposures (x ∷ []) number within ∙ is.at;
      has = is.has;
      first = λ k other low got. is.first k other low (sym (got_before exposures (x ∷ []) k (omega arith)) ∙ got);
    }

pub origins_more : (exposures : List Exposure) (x : Exposure) (old now : BTreeMap ℕ ℕ) → AreOrigins exposures old → Noted old now x.fact.vals (length exposures) → AreOrigins (exposures ++ x ∷ []) now
origins_more exposures x old now are noted = record {
  each = λ label number e. ⊎_elim (λ h. let (first, is) = are.each label number h in (first, first_later exposures x label number first is))
      (λ (n, none, has). (
        x,
        record {
          at = subst (λ k. slice_get (exposures ++ x ∷ []) k ≡ Some x) (sym n) (got_push exposures x);
          has = has;
          first = λ k other low got. are.all label other none (contains_got exposures k other (sym (got_before exposures (x ∷ []) k (omega arith)) ∙ got));
        },
      )) (noted.only label number e);
  all = λ label e none c. ⊎_elim (λ h. are.all label e (was label none) h) (λ same. λ has. noted.all label none (subst (λ (y : Exposure). Contains y.fact.vals (Label label)) (sym same) has)) (Contains-push_cases exposures x e c);
}
  where
    was : (q : ℕ) → get nat_cmp now q ≡ None → get nat_cmp old q ≡ None
    was q e = ⊎_elim (λ none. none) (λ (n, some). let on : get nat_cmp now q ≡ Some n = noted.kept q n some in let off : None ≡ Some n = sym e ∙ on in absurd (cc)) (either_option (get nat_cmp old q))
