-- The first value of a row that is no integer at an integer column of its relation.
use Rattle.std.proofs.Common.{◌≡◌, ◌∙◌, ◌<◌, sym, ap, ℕ, Option, Some, None, slice_get}
use Rattle.std.specs.Prelude.{IfNone, IfSome, MatchOption}
use Rattle.meaning.specs.declared.types.Fact.{Fact}
use Rattle.meaning.specs.declared.types.Relation.{Relation}
use Rattle.meaning.specs.declared.types.Sort.TheVariants.{Int}
use Rattle.meaning.specs.declared.types.SchemaParts.{SchemaParts}
use Rattle.meaning.specs.Values.{Value}
use Rattle.meaning.specs.Integers.{IsInteger}
use Rattle.meaning.specs.Matching.{itself}
use Rattle.meaning.specs.Sorts.{HoldsIntegers, AreSorted}
use Rattle.access_schema.specs.BadValues.{IsOtherAt, IsOtherIn, IsFirstOther}
use Rattle.lists.proofs.Members.{some_injective}

module _ (schema : SchemaParts) (fact : Fact) (relation : Relation) (there : slice_get schema.relations fact.rel ≡ Some relation) where
  int_sort : (place : ℕ) → HoldsIntegers schema fact.rel place → slice_get relation.sorts place ≡ Some Int
  int_sort place (other, at, int) = ap (λ (r : Relation). slice_get r.sorts place) (some_injective relation other (sym there ∙ at)) ∙ int

  row_sorted : ((place : ℕ) (value : Value) → slice_get relation.sorts place ≡ Some Int → slice_get fact.row place ≡ Some value → IsInteger value) → AreSorted itself schema fact.rel fact.row
  row_sorted each place c holds at = each place c (int_sort place holds) at

  row_other : (column : ℕ) → IsOtherIn relation.sorts fact.row column → ((lower : ℕ) → lower < column → IsOtherIn relation.sorts fact.row lower → ⊥) → IsFirstOther schema fact column
  row_other column (value, int, at, none) first = record {
    other = (value, (relation, there, int), at, none);
    first = λ lower lt (c, holds, got, other). first lower lt (c, int_sort lower holds, got, other);
  }

  -- what is found of the sorts and the row says what is found of the fact
  pub found_other : (result : Option ℕ) → IfNone result ((place : ℕ) (value : Value) → slice_get relation.sorts place ≡ Some Int → slice_get fact.row place ≡ Some value → IsInteger value)
      → IfSome result (IsOtherIn relation.sorts fact.row) → IfSome result (λ place. (lower : ℕ) → lower < place → IsOtherIn relation.sorts fact.row lower → ⊥)
      → MatchOption result (AreSorted itself schema fact.rel fact.row) (IsFirstOther schema fact)
  found_other None none other first = row_sorted none
  found_other (Some column) none other first = row_other column other first
