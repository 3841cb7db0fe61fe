-- The labels that stand at integer columns, as lists.
use Rattle.std.specs.Prelude.{ℕ, List, [], ◌∷◌, ◌++◌, Option, None, Some, flat_map, slice_get}
use Rattle.meaning.specs.declared.types.Ground.{Ground}
use Rattle.meaning.specs.declared.types.Relation.{Relation}
use Rattle.meaning.specs.declared.types.SchemaParts.{SchemaParts}
use Rattle.meaning.specs.declared.types.Sort.{Sort}
use Rattle.meaning.specs.declared.types.Sort.TheVariants.{Text, Int}
use Rattle.meaning.specs.declared.types.Val.{Val}
use Rattle.no_plan_witness.specs.Texts.{labels_of}

-- The sorts of the columns of a relation; none where there is no relation.
abbrev pub sorts_in : Option Relation → List Sort
sorts_in None = []
sorts_in (Some relation) = relation.sorts

abbrev pub sorts_at : SchemaParts → ℕ → List Sort
sorts_at schema rel = sorts_in (slice_get schema.relations rel)

-- The labels of a value at a column, where the column holds integers.
abbrev pub integers_at : Sort → Val → List ℕ
integers_at Text val = []
integers_at Int val = labels_of val

-- The labels of values at the columns of integers.
abbrev pub integers_among : List Sort → List Val → List ℕ
integers_among [] vals = []
integers_among (sort ∷ sorts) [] = []
integers_among (sort ∷ sorts) (val ∷ vals) = integers_at sort val ++ integers_among sorts vals

-- Those of facts, with repetitions.
abbrev pub integers_in : SchemaParts → List Ground → List ℕ
integers_in schema facts = flat_map (λ (fact : Ground). integers_among (sorts_at schema fact.rel) fact.vals) facts
