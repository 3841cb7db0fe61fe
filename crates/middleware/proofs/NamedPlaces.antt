-- Places of a table, one after another, and the places of columns.
use Rattle.std.proofs.Common.{◌≡◌, ℕ, ◌+◌, ◌<◌, ◌≤◌, List, [], ◌∷◌, ◌++◌, length, take, drop, get_or, Some, ⊎_elim, zero, suc, refl, sym, ◌∙◌, ap, subst, append_assoc, arith}
use Rattle.std.specs.Prelude.{Contains, slice_get}
use Rattle.std.proofs.lemmas.List.{append-nil, drop_more, take_more}
use Rattle.lists.proofs.Members.{contains_one}
use Rattle.meaning.specs.declared.types.Place.{Place}
use Rattle.meaning.specs.declared.types.Place.TheVariants.{Const, Col, New}
use Rattle.meaning.specs.Plans.{made}
use Rattle.middleware.specs.Naming.{AddsAsked, AreAsked, IsLocal}
use Rattle.middleware.specs.Named.{AddsLocal, NamesOne}
use Rattle.middleware.specs.declared.naming.Named.{Named}
use Rattle.middleware.proofs.Steps.{in_append}

-- what goes on from the old table goes on from the new one
moved : (places locals : List Place) (after columns others : List ℕ) (n m : ℕ) → columns ≡ others → n ≡ m → IsLocal columns n places locals after → IsLocal others m places locals after
moved places locals after columns others n m ce ne i = subst (λ k. IsLocal others k places locals after) ne (subst (λ (c : List ℕ). IsLocal c n places locals after) ce i)

module _ (old new : Named) where
  pub names_const : (text copy : List ℕ) → copy ≡ text → AddsLocal (Const copy) old.columns old new → NamesOne (Const text) old new
  names_const text copy same a = record {
    local = Const copy;
    places_are = a.places_are;
    goes_on = λ places locals after i. (same, moved places locals after new.columns old.columns new.count old.count a.columns_are a.count_is i);
    count = λ places. ap (λ n. made n places) (sym a.count_is);
  }

  pub names_known : (number column : ℕ) → slice_get old.columns number ≡ Some column → AddsLocal (Col number) old.columns old new → NamesOne (Col column) old new
  names_known number column got a = record {
    local = Col number;
    places_are = a.places_are;
    goes_on = λ places locals after i. (got, moved places locals after new.columns old.columns new.count old.count a.columns_are a.count_is i);
    count = λ places. ap (λ n. made n places) (sym a.count_is);
  }

  pub names_unknown : (column : ℕ) → (Contains old.columns column → ⊥) → AddsLocal New (old.columns ++ column ∷ []) old new → NamesOne (Col column) old new
  names_unknown column not a = record {
    local = New;
    places_are = a.places_are;
    goes_on = λ places locals after i. (not, moved places locals after new.columns (old.columns ++ column ∷ []) new.count old.count a.columns_are a.count_is i);
    count = λ places. ap (λ n. made n places) (sym a.count_is);
  }

  pub names_new : (count : ℕ) → count ≡ old.count → new.places ≡ old.places ++ New ∷ [] → new.columns ≡ old.columns ++ count ∷ [] → new.count ≡ count + 1 → NamesOne New old new
  names_new count is places_are columns_are more = record {
    local = New;
    places_are = places_are;
    goes_on = λ places locals after i. moved places locals after new.columns (old.columns ++ old.count ∷ []) new.count (old.count + 1)
        (columns_are ∙ ap (λ k. old.columns ++ k ∷ []) is) (more ∙ ap (λ k. k + 1) is) i;
    count = λ places. ap (λ n. made n places) (sym (more ∙ ap (λ k. k + 1) is));
  }

module _ (first : List ℕ) (n : ℕ) (places : List Place) (i : ℕ) (old : Named) where
  -- places go on from what there is so far
  abbrev pub GoesOn : Type 0
  GoesOn = (locals : List Place) (after : List ℕ) → IsLocal old.columns old.count (drop i places) locals after → IsLocal first n places (old.places ++ locals) after

  pub all_named : length places ≤ i → GoesOn → IsLocal first n places old.places old.columns
  all_named over goes = subst (λ (l : List Place). IsLocal first n places l old.columns) (append-nil old.places)
      (goes [] old.columns (subst (λ (l : List Place). IsLocal old.columns old.count l [] old.columns) (sym (none_left places i over)) refl))
    where
      none_left : (places : List Place) (i : ℕ) → length places ≤ i → drop i places ≡ []
      none_left [] zero l = refl
      none_left [] (suc i) l = refl
      none_left (p ∷ places) zero l = absurd (omega (arith, l))
      none_left (p ∷ places) (suc i) l = none_left places i (omega (arith, l))

  module _ (place : Place) (less : i < length places) (at : place ≡ get_or places i place) (new : Named) (one : NamesOne place old new) where
    left : drop i places ≡ place ∷ drop (i + 1) places
    left = drop_more places i place less ∙ ap (λ (p : Place). p ∷ drop (i + 1) places) (sym at)

    pub named_more : GoesOn → (locals : List Place) (after : List ℕ) → IsLocal new.columns new.count (drop (i + 1) places) locals after → IsLocal first n places (new.places ++ locals) after
    named_more goes locals after local =
        let here = goes (one.local ∷ locals) after (subst (λ (l : List Place). IsLocal old.columns old.count l (one.local ∷ locals) after) (sym left) (one.goes_on (drop (i + 1) places) locals after local)) in
        subst (λ (l : List Place). IsLocal first n places l after) (sym (append_assoc old.places (one.local ∷ []) locals) ∙ ap (λ (l : List Place). l ++ locals) (sym one.places_are)) here

    pub count_named : made n places ≡ made old.count (drop i places) → made n places ≡ made new.count (drop (i + 1) places)
    count_named is = is ∙ ap (made old.count) left ∙ one.count (drop (i + 1) places)

-- ---- columns that are asked for

pub asked_more : (places : List Place) (inputs old new : List ℕ) (i d : ℕ) → i < length inputs → AddsAsked (slice_get places (get_or inputs i d)) old new → AreAsked old places (take i inputs) → AreAsked new places (take (i + 1) inputs)
asked_more places inputs old new i d less adds asked p k among named = ⊎_elim
    (λ h. adds.keeps k (asked p k h named))
    (λ h. let same = contains_one (get_or inputs i d) p h in adds.has k (subst (λ q. slice_get places q ≡ Some (Col k)) (sym same) named))
    (in_append (take i inputs) (get_or inputs i d ∷ []) p (subst (λ (l : List ℕ). Contains l p) (take_more inputs i d less) among))
