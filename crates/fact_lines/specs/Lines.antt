-- How facts are printed: the line of each, and the order in which they stand.
use Rattle.std.specs.Prelude.{◌≡◌, ◌↔◌, ◌++◌, ℕ, List, [], Option, None, Some, Contains, flat_map, slice_get, codes}
use Rattle.std.specs.List.Sorted.{IsStrictlySortedBy}
use Rattle.std.specs.Ordering.{nat_cmp, ordering_then}
use Rattle.std.specs.declared.cmp.Ordering.{Ordering}
use Rattle.pq_text.specs.Printing.{printed_name, printed_value}
use Rattle.pq_text.specs.Listed.{listed}
use Rattle.meaning.specs.declared.types.Relation.{Relation}
use Rattle.meaning.specs.declared.types.Fact.{Fact}
use Rattle.meaning.specs.Requests.{rows_cmp}
use Rattle.access_schema.specs.declared.schema.Schema.{Schema}

-- the printed name of a relation, and nothing for a relation that is not there
abbrev pub relation_text : Option Relation → List ℕ
relation_text None = []
relation_text (Some relation) = printed_name relation.name

-- NAME(VALUE, ..)
abbrev pub fact_text : List Relation → Fact → List ℕ
fact_text relations fact = relation_text (slice_get relations fact.rel) ++ codes "(" ++ listed printed_value fact.row ++ codes ")\n"

-- by the relations' numbers, and within a relation by the rows
abbrev pub fact_cmp : Fact → Fact → Ordering
fact_cmp x y = ordering_then (nat_cmp x.rel y.rel) (rows_cmp x.row y.row)

-- The facts of the instance, each once and in ascending order.
pub record IsListing (instance listing : List Fact) : Type 0 where
  pub ascends : IsStrictlySortedBy fact_cmp listing
  pub same : (fact : Fact) → Contains listing fact ↔ Contains instance fact

-- The text is that of the facts, each once and in ascending order: the line of each.
pub record IsFactsText (schema : Schema) (facts : List Fact) (text : List ℕ) : Type 0 where
  pub listing : List Fact
  pub is_listing : IsListing facts listing
  pub text_is : text ≡ flat_map (fact_text schema.relations) listing
