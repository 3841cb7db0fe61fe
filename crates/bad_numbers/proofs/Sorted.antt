-- What is found of rows by the sorts of their columns is what is found of them by the schema.
use Rattle.std.proofs.Common.{◌≡◌, ℕ, List, Option, None, Some, refl, slice_get}
use Rattle.meaning.specs.declared.types.Relation.{Relation}
use Rattle.meaning.specs.declared.types.SchemaParts.{SchemaParts}
use Rattle.meaning.specs.declared.types.Sort.TheVariants.{Int}
use Rattle.meaning.specs.Sorts.{HoldsIntegers}
use Rattle.meaning.specs.Values.{Row}
use Rattle.lists.proofs.Members.{none_some}
use Rattle.bad_numbers.specs.Numbers.{IsBadAt, FindsBad}
use Rattle.bad_numbers.specs.Rows.{sorts_in, HasOtherAt, FindsOther}

module _ (schema : SchemaParts) (rel : ℕ) where
  holds_int : (column : ℕ) → slice_get (sorts_in (slice_get schema.relations rel)) column ≡ Some Int → HoldsIntegers schema rel column
  holds_int column int = by (slice_get schema.relations rel) refl int
    where
      by : (o : Option Relation) → slice_get schema.relations rel ≡ o → slice_get (sorts_in o) column ≡ Some Int → HoldsIntegers schema rel column
      by None e int = absurd (none_some Int int)
      by (Some relation) e int = (relation, e, int)

  int_held : (column : ℕ) → HoldsIntegers schema rel column → slice_get (sorts_in (slice_get schema.relations rel)) column ≡ Some Int
  int_held column (relation, at, int) = rw at int

  bad_at : (rows : List Row) (column : ℕ) → slice_get (sorts_in (slice_get schema.relations rel)) column ≡ Some Int → HasOtherAt rows column → IsBadAt schema rel rows column
  bad_at rows column int (row, value, among, got, other) = (row, among, (value, holds_int column int, got, other))

  other_at : (rows : List Row) (column : ℕ) → IsBadAt schema rel rows column → HasOtherAt rows column
  other_at rows column (row, among, (value, holds, got, other)) = (row, value, among, got, other)

  pub found_bad : (rows : List Row) (found : Option ℕ) → FindsOther (sorts_in (slice_get schema.relations rel)) rows found → FindsBad schema rel rows found
  found_bad rows None each = λ row among column value holds got. each column (int_held column holds) row value among got
  found_bad rows (Some column) is = record {
    bad = bad_at rows column is.int is.other;
    least = λ its bad. is.least its (int_held its bad.2.1) (other_at rows its bad);
  }
