-- What is found of rows that came in several parts.
use Rattle.std.proofs.Common.{◌≡◌, ◌⊎◌, ℕ, ◌+◌, List, [], ◌∷◌, ◌++◌, min, take, Option, None, Some, sym, ap, ◌∙◌, subst, inl, inr, ⊎_elim, arith}
use Rattle.std.specs.Prelude.{Contains, flat_map, slice_get}
use Rattle.std.proofs.lemmas.Bool.{cases_lt}
use Rattle.std.proofs.lemmas.List.{append-nil}
use Rattle.std.proofs.lemmas.List.Elements.{Contains-append_cases, Contains-append_left, Contains-append_right}
use Rattle.std.proofs.lemmas.Grind.{flat_map-append}
use Rattle.lists.proofs.Members.{contains_none, contains_mapped}
use Rattle.lists.proofs.Places.{take_got}
use Rattle.meaning.specs.declared.types.Fact.{Fact}
use Rattle.meaning.specs.declared.types.SchemaParts.{SchemaParts}
use Rattle.meaning.specs.Matching.{itself}
use Rattle.meaning.specs.Sorts.{AreSorted}
use Rattle.meaning.specs.Values.{Row}
use Rattle.source_trait.specs.Asking.{RowList, facts_of}
use Rattle.bad_numbers.specs.Numbers.{HaveIntegers, IsBadAt, FindsBad}
use Rattle.bad_numbers.specs.Found.{lower_of}

module _ (schema : SchemaParts) (rel : ℕ) where
  -- rows with integers have no bad number
  pub none_bad : (rows : List Row) (column : ℕ) → HaveIntegers schema rel rows → IsBadAt schema rel rows column → ⊥
  none_bad rows column each (row, among, (value, holds, got, other)) = other (each row among column value holds got)

  bad_left : (xs ys : List Row) (column : ℕ) → IsBadAt schema rel xs column → IsBadAt schema rel (xs ++ ys) column
  bad_left xs ys column (row, among, other) = (row, Contains-append_left xs ys row among, other)

  bad_right : (xs ys : List Row) (column : ℕ) → IsBadAt schema rel ys column → IsBadAt schema rel (xs ++ ys) column
  bad_right xs ys column (row, among, other) = (row, Contains-append_right xs ys row among, other)

  bad_cases : (xs ys : List Row) (column : ℕ) → IsBadAt schema rel (xs ++ ys) column → IsBadAt schema rel xs column ⊎ IsBadAt schema rel ys column
  bad_cases xs ys column (row, among, other) = ⊎_elim (λ c. inl (row, c, other)) (λ c. inr (row, c, other)) (Contains-append_cases xs ys row among)

  pub none_found : FindsBad schema rel [] None
  none_found = λ row c. absurd (contains_none row c)

  pub both_found : (xs ys : List Row) (first second : Option ℕ) → FindsBad schema rel xs first → FindsBad schema rel ys second → FindsBad schema rel (xs ++ ys) (lower_of first second)
  both_found xs ys None None left right = λ row c. ⊎_elim (left row) (right row) (Contains-append_cases xs ys row c)
  both_found xs ys None (Some column) left right = record {
    bad = bad_right xs ys column right.bad;
    least = λ its bad. ⊎_elim (λ b. absurd (none_bad xs its left b)) (right.least its) (bad_cases xs ys its bad);
  }
  both_found xs ys (Some column) None left right = record {
    bad = bad_left xs ys column left.bad;
    least = λ its bad. ⊎_elim (left.least its) (λ b. absurd (none_bad ys its right b)) (bad_cases xs ys its bad);
  }
  both_found xs ys (Some column) (Some other) left right = record {
    bad = ⊎_elim
        (λ low. let e : column ≡ min column other = omega arith in subst (IsBadAt schema rel (xs ++ ys)) e (bad_left xs ys column left.bad))
        (λ low. let e : other ≡ min column other = omega arith in subst (IsBadAt schema rel (xs ++ ys)) e (bad_right xs ys other right.bad))
        (cases_lt column other);
    least = λ its bad. ⊎_elim (λ b. let low = left.least its b in omega arith) (λ b. let low = right.least its b in omega arith) (bad_cases xs ys its bad);
  }

  -- one answer more
  pub one_more : (answers : List RowList) (k : ℕ) (rows : RowList) (first second : Option ℕ) → slice_get answers k ≡ Some rows
      → FindsBad schema rel (flat_map (λ (r : RowList). r) (take k answers)) first → FindsBad schema rel rows second
      → FindsBad schema rel (flat_map (λ (r : RowList). r) (take (k + 1) answers)) (lower_of first second)
  one_more answers k rows first second at left right =
      let e : flat_map (λ (r : RowList). r) (take (k + 1) answers) ≡ flat_map (λ (r : RowList). r) (take k answers) ++ rows =
      ap (flat_map (λ (r : RowList). r)) (take_got answers k rows at) ∙ flat_map-append (λ (r : RowList). r) (take k answers) (rows ∷ [])
      ∙ ap (λ (l : RowList). flat_map (λ (r : RowList). r) (take k answers) ++ l) (append-nil rows) in
      subst (λ (l : RowList). FindsBad schema rel l (lower_of first second)) (sym e) (both_found (flat_map (λ (r : RowList). r) (take k answers)) rows first second left right)

  -- facts of rows with integers have integers
  pub facts_sorted : (rows : List Row) → HaveIntegers schema rel rows → (fact : Fact) → Contains (facts_of rel rows) fact → AreSorted itself schema fact.rel fact.row
  facts_sorted rows each fact c =
      let (row, among, e) = contains_mapped (λ (r : Row). record { rel = rel; row = r }) rows fact c in
      subst (λ (f : Fact). AreSorted itself schema f.rel f.row) e (each row among)
