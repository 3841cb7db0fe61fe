-- The least of some facts, one fact after another.
use Rattle.std.proofs.Common.{◌≡◌, ◌↔◌, Bool, true, ℕ, ◌+◌, ◌<◌, List, [], ◌∷◌, ◌++◌, length, take, slice_index_or, Option, Some, None, refl, sym, ap, ◌∙◌, subst, ⊎_elim, Contains}
use Rattle.std.specs.Prelude.{◌≢◌, IsTrue}
use Rattle.std.specs.Ordering.{is_lt, ordering_reverse}
use Rattle.std.specs.declared.cmp.Ordering.{Ordering}
use Rattle.std.specs.declared.cmp.Ordering.TheVariants.{Less, Equal, Greater}
use Rattle.std.proofs.lemmas.Cmp.{upto, tied_itself}
use Rattle.std.proofs.lemmas.List.Elements.{Contains-append_left, Contains-push, Contains-push_cases}
use Rattle.lists.proofs.Orders.{rows_total}
use Rattle.lists.proofs.Places.{take_indexed}
use Rattle.meaning.specs.declared.types.Fact.{Fact}
use Rattle.data_verify.specs.Inclusion.{IsLeastOf, IsLeastIf, IsBelow}
use Rattle.data_verify.specs.Keys.{row_cmp}
use Rattle.data_verify.proofs.Choosing.{not_above, never_above}

less_greater : Less ≡ Greater → ⊥
less_greater e = cc

equal_greater : Equal ≡ Greater → ⊥
equal_greater e = cc

through : (x y z : List (List ℕ)) → row_cmp x y ≢ Greater → row_cmp y z ≢ Greater → row_cmp x z ≢ Greater
through x y z first second = never_above (row_cmp x z) (upto rows_total x y z (not_above (row_cmp x y) first) (not_above (row_cmp y z) second))

-- what is not below comes at or behind
behind : (x y : List (List ℕ)) → (row_cmp y x ≡ Less → ⊥) → row_cmp x y ≢ Greater
behind x y not = by (row_cmp y x) refl
  where
    by : (o : Ordering) → row_cmp y x ≡ o → row_cmp x y ≢ Greater
    by Less e g = not e
    by Equal e g = equal_greater (sym (ap ordering_reverse e) ∙ sym (rows_total.antisymm x y) ∙ g)
    by Greater e g = less_greater (sym (ap ordering_reverse e) ∙ sym (rows_total.antisymm x y) ∙ g)

-- what a comparison tells
pub below_is : (fact first : Fact) (least : Option Fact) (o : Ordering) (b : Bool) → least ≡ Some first → o ≡ row_cmp fact.row first.row → b ≡ is_lt o → IsTrue b ↔ IsBelow fact least
below_is fact first least o b is e f = subst (λ z. IsTrue b ↔ IsBelow fact z) (sym is) (
  (λ t. sym e ∙ less o (sym f ∙ t)),
  (λ h. f ∙ ap is_lt (e ∙ h)),
)
  where
    less : (o : Ordering) → is_lt o ≡ true → o ≡ Less
    less Less t = refl
    less Equal t = absurd (cc)
    less Greater t = absurd (cc)

module _ (P : Fact → Type 0) where
  keeps : (done : List Fact) (fact : Fact) (least : Option Fact) → (IsBelow fact least → P fact → ⊥) → IsLeastIf P done least → IsLeastIf P (done ++ fact ∷ []) least
  keeps done fact None not all = λ other c is. ⊎_elim (λ h. all other h is) (λ e. not tt (subst P (sym e) is)) (Contains-push_cases done fact other c)
  keeps done fact (Some first) not all = record {
    among = Contains-append_left done (fact ∷ []) first all.among;
    is = all.is;
    lowest = λ other c is. ⊎_elim (λ h. all.lowest other h is)
        (λ e. behind first.row other.row (λ below. not (ap (λ (z : Fact). row_cmp z.row first.row) e ∙ below) (subst P (sym e) is))) (Contains-push_cases done fact other c);
  }

  takes : (done : List Fact) (fact : Fact) (least : Option Fact) → IsBelow fact least → P fact → IsLeastIf P done least → IsLeastOf P (done ++ fact ∷ []) fact
  takes done fact least below is all = record {
    among = Contains-push done fact;
    is = is;
    lowest = λ other c p. ⊎_elim (λ h. by least below all other h p) (λ e. same other e) (Contains-push_cases done fact other c);
  }
    where
      same : (other : Fact) → fact ≡ other → row_cmp fact.row other.row ≢ Greater
      same other e g = equal_greater (sym (tied_itself rows_total fact.row) ∙ ap (λ (z : Fact). row_cmp fact.row z.row) e ∙ g)

      by : (least : Option Fact) → IsBelow fact least → IsLeastIf P done least → (other : Fact) → Contains done other → P other → row_cmp fact.row other.row ≢ Greater
      by None below all other h p = absurd (all other h p)
      by (Some first) below all other h p = through fact.row first.row other.row (λ g. less_greater (sym below ∙ g)) (all.lowest other h p)

  module _ (facts : List Fact) (i : ℕ) (fact : Fact) (l : i < length facts) (is : fact ≡ slice_index_or facts i fact) (least : Option Fact) (all : IsLeastIf P (take i facts) least) where
    pub turn_keeps : (IsBelow fact least → P fact → ⊥) → IsLeastIf P (take (i + 1) facts) least
    unfolding keeps
    turn_keeps not = subst (λ z. IsLeastIf P z least) (sym (take_indexed facts i fact l is)) (keeps (take i facts) fact least not all)

    pub turn_takes : IsBelow fact least → P fact → IsLeastOf P (take (i + 1) facts) fact
    unfolding takes
    turn_takes below p = subst (λ z. IsLeastOf P z fact) (sym (take_indexed facts i fact l is)) (takes (take i facts) fact least below p all)
