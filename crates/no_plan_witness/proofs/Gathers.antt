-- An access path that takes one fact after another, until no other fact can be accessed.
use Rattle.std.proofs.Common.{◌≡◌, ◌↔◌, ◌⊎◌, ℕ, ◌+◌, ◌<◌, suc, List, [], ◌∷◌, ◌++◌, length, sym, ap, ◌∙◌, subst, inl, inr, ⊎_elim, arith, Contains, take, drop, slice_index_or}
use Rattle.std.specs.List.{HoldsAt, remove}
use Rattle.std.proofs.lemmas.List.{take-append-drop, drop_more}
use Rattle.std.proofs.lemmas.List.Elements.{Contains-append_left, Contains-append_right, Contains-append_cases}
use Rattle.lists.proofs.Members.{contains_here, contains_there, contains_cases, contains_none}
use Rattle.meaning.specs.declared.types.Fact.{Fact}
use Rattle.meaning.specs.declared.types.SchemaParts.{SchemaParts}
use Rattle.meaning.specs.Access.{CanAccess, IsAccessPath, IsAccessible}
use Rattle.no_plan_witness.specs.Gathering.{Gathered}

-- a list with the member at a place taken out
apart : {X : Type 0} (xs : List X) (i : ℕ) (x : X) → i < length xs → x ≡ slice_index_or xs i x → xs ≡ take i xs ++ x ∷ drop (suc i) xs
apart xs i x l e =
    let more : drop i xs ≡ slice_index_or xs i x ∷ drop (i + 1) xs = drop_more xs i x l in
    let next : i + 1 ≡ suc i = omega arith in
    sym (take-append-drop i xs) ∙ ap (λ ys. take i xs ++ ys) (more ∙ ap (λ n. slice_index_or xs i x ∷ drop n xs) next ∙ ap (λ y. y ∷ drop (suc i) xs) (sym e))

removed_in : {X : Type 0} (xs : List X) (i : ℕ) (x y : X) → i < length xs → x ≡ slice_index_or xs i x → Contains (remove xs i) y → Contains xs y
removed_in xs i x y l e c = subst (λ ys. Contains ys y) (sym (apart xs i x l e)) (⊎_elim
    (λ h. Contains-append_left (take i xs) (x ∷ drop (suc i) xs) y h)
    (λ h. Contains-append_right (take i xs) (x ∷ drop (suc i) xs) y (contains_there x (drop (suc i) xs) y h))
    (Contains-append_cases (take i xs) (drop (suc i) xs) y c))

removed_cases : {X : Type 0} (xs : List X) (i : ℕ) (x y : X) → i < length xs → x ≡ slice_index_or xs i x → Contains xs y → Contains (remove xs i) y ⊎ (x ≡ y)
removed_cases xs i x y l e c = ⊎_elim
    (λ h. inl (Contains-append_left (take i xs) (drop (suc i) xs) y h))
    (λ h. ⊎_elim (λ f. inr f) (λ g. inl (Contains-append_right (take i xs) (drop (suc i) xs) y g)) (contains_cases x (drop (suc i) xs) y h))
    (Contains-append_cases (take i xs) (x ∷ drop (suc i) xs) y (subst (λ ys. Contains ys y) (apart xs i x l e) c))

-- nothing is taken
pub gathered_none : (schema : SchemaParts) (constants : List (List ℕ)) (facts : List Fact) → Gathered schema constants facts facts []
gathered_none schema constants facts = record { path = tt; once = tt; waits = λ fact c. c; each = λ fact c. inl c }

-- a fact of an access path is accessible
accessible : (schema : SchemaParts) (constants : List (List ℕ)) (facts path : List Fact) (fact : Fact) → IsAccessPath schema constants facts path → Contains path fact → IsAccessible schema constants facts fact
accessible schema constants facts [] fact is c = absurd (contains_none fact c)
accessible schema constants facts (first ∷ earlier) fact is c =
    ⊎_elim (λ e. (earlier, subst (λ f. IsAccessPath schema constants facts (f ∷ earlier)) e is)) (λ h. accessible schema constants facts earlier fact is.2 h) (contains_cases first earlier fact c)

-- a waiting fact is dropped that the part has, and another is taken
module _ (schema : SchemaParts) (constants : List (List ℕ)) (facts waiting part : List Fact) (g : Gathered schema constants facts waiting part) (place : ℕ) (taken : Fact) (within : place < length waiting) (is : taken ≡ slice_index_or waiting place taken) where
  waits_still : (fact : Fact) → Contains (remove waiting place) fact → Contains facts fact
  waits_still fact c = g.waits fact (removed_in waiting place taken fact within is c)

  pub gathered_skip : Contains part taken → Gathered schema constants facts (remove waiting place) part
  gathered_skip there = record {
    path = g.path;
    once = g.once;
    waits = waits_still;
    each = λ fact c. ⊎_elim (λ w. ⊎_elim (λ h. inl h) (λ e. inr (subst (λ f. Contains part f) e there)) (removed_cases waiting place taken fact within is w)) (λ h. inr h) (g.each fact c);
  }

  pub gathered_more : HoldsAt (CanAccess schema constants part) waiting place → (Contains part taken → ⊥) → Gathered schema constants facts (remove waiting place) (taken ∷ part)
  gathered_more can new = record {
    path = (g.waits taken (place, within, sym is), subst (CanAccess schema constants part) (sym is) (can taken), g.path);
    once = (new, g.once);
    waits = waits_still;
    each = λ fact c. ⊎_elim
        (λ w. ⊎_elim (λ h. inl h) (λ e. inr (subst (λ f. Contains (taken ∷ part) f) e (contains_here taken part))) (removed_cases waiting place taken fact within is w))
        (λ h. inr (contains_there taken part fact h)) (g.each fact c);
  }

-- where no waiting fact can be accessed, the part is exactly the accessible facts
pub gathered_all : (schema : SchemaParts) (constants : List (List ℕ)) (facts waiting part : List Fact) →
    (((fact : Fact) → Contains facts fact → CanAccess schema constants part fact → Contains part fact) → (path : List Fact) → IsAccessPath schema constants facts path → (fact : Fact) → Contains path fact → Contains part fact) →
    Gathered schema constants facts waiting part → ((fact : Fact) → Contains waiting fact → CanAccess schema constants part fact → ⊥) → (fact : Fact) → Contains part fact ↔ IsAccessible schema constants facts fact
gathered_all schema constants facts waiting part closed g none fact = (
  (λ c. accessible schema constants facts part fact g.path c),
  (λ (earlier, path). closed (λ f c can. ⊎_elim (λ w. absurd (none f w can)) (λ h. h) (g.each f c)) (fact ∷ earlier) path fact (contains_here fact earlier)),
)
