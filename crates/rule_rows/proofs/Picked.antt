-- What is picked of a relation without positions are the rows of its facts.
use Rattle.std.proofs.Common.{◌≡◌, inl, inr, ℕ, List, [], ◌∷◌, map, Bool, true, false, cond, ◌&&◌, nat_eq, refl, ap, subst, arith}
use Rattle.std.specs.Prelude.{Contains}
use Rattle.std.specs.List.{filter}
use Rattle.std.proofs.lemmas.Bool.Decides.{nat_tests}
use Rattle.lists.proofs.Members.{contains_here, contains_there, contains_cases, contains_mapped}
use Rattle.meaning.specs.declared.types.Fact.{Fact}
use Rattle.source_trait.specs.Asking.{RowList, pick, facts_of}

abbrev row_of : Fact → List (List ℕ)
row_of f = f.row

abbrev is_of : ℕ → Fact → Bool
is_of rel f = nat_eq f.rel rel && true

abbrev pub fact_of : ℕ → List (List ℕ) → Fact
fact_of rel row = record { rel = rel; row = row }

module _ (rel : ℕ) (row : List (List ℕ)) where
  pub picked_held : (held : List Fact) → Contains (pick held rel [] []) row → Contains held (fact_of rel row)
  picked_held [] c = absurd (omega arith)
  picked_held (f ∷ held) c = step (nat_eq f.rel rel) refl (picked_held held) c
    where
      step : (b : Bool) → nat_eq f.rel rel ≡ b → (Contains (pick held rel [] []) row → Contains held (fact_of rel row)) →
          Contains (map row_of (cond (b && true) (f ∷ filter (is_of rel) held) (filter (is_of rel) held))) row → Contains (f ∷ held) (fact_of rel row)
      step true test later c = elim (contains_cases f.row (map row_of (filter (is_of rel) held)) row c) [
        | inl same ↦
            let here : f.rel ≡ rel = grind (arith, nat_tests, test) in
            subst (λ (w : List (List ℕ)). Contains (f ∷ held) (fact_of rel w)) same (subst (λ (n : ℕ). Contains (f ∷ held) (fact_of n f.row)) here (contains_here f held))
        | inr more ↦ contains_there f held (fact_of rel row) (later more)
      ]
      step false test later c = contains_there f held (fact_of rel row) (later c)

  pub held_picked : (held : List Fact) → Contains held (fact_of rel row) → Contains (pick held rel [] []) row
  held_picked [] c = absurd (omega arith)
  held_picked (f ∷ held) c = step (nat_eq f.rel rel) refl (held_picked held)
    where
      step : (b : Bool) → nat_eq f.rel rel ≡ b → (Contains held (fact_of rel row) → Contains (pick held rel [] []) row) →
          Contains (map row_of (cond (b && true) (f ∷ filter (is_of rel) held) (filter (is_of rel) held))) row
      step true test later = elim (contains_cases f held (fact_of rel row) c) [
        | inl same ↦ subst (λ (w : List (List ℕ)). Contains (f.row ∷ map row_of (filter (is_of rel) held)) w) (ap row_of same) (contains_here f.row (map row_of (filter (is_of rel) held)))
        | inr more ↦ contains_there f.row (map row_of (filter (is_of rel) held)) row (later more)
      ]
      step false test later = elim (contains_cases f held (fact_of rel row) c) [
        | inl same ↦ let here : f.rel ≡ rel = ap (λ (g : Fact). g.rel) same in absurd (grind (arith, nat_tests, test, here))
        | inr more ↦ later more
      ]

  -- the facts of rows
  pub of_rows : (rows : RowList) → Contains (facts_of rel rows) (fact_of rel row) → Contains rows row
  of_rows rows c =
      let (w, among, e) = contains_mapped (fact_of rel) rows (fact_of rel row) c in
      subst (λ (x : List (List ℕ)). Contains rows x) (ap row_of e) among

  pub not_other : (r : ℕ) (rows : RowList) → Contains (facts_of r rows) (fact_of rel row) → r ≡ rel
  not_other r rows c =
      let (w, among, e) = contains_mapped (fact_of r) rows (fact_of rel row) c in
      ap (λ (f : Fact). f.rel) e
