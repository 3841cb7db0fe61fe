-- The requests of a round of a crawl, found from the known values alone, with no look at earlier requests.
use Rattle.std.specs.Prelude.{◌≡◌, ◌↔◌, ℕ, Bool, true, false, List, Contains, length, map, flat_map}
use Rattle.std.specs.List.{sum_by}
use Rattle.std.specs.List.Sorted.{IsStrictlySortedBy}
use Rattle.std.specs.Ordering.{nat_cmp, ordering_then}
use Rattle.std.specs.Cmp.Lexicographic.{slice_cmp}
use Rattle.std.specs.declared.cmp.Ordering.{Ordering}
use Rattle.meaning.specs.declared.types.Method.{Method}
use Rattle.meaning.specs.declared.types.SchemaParts.{SchemaParts}
use Rattle.meaning.specs.declared.types.Request.{Request}
use Rattle.meaning.specs.Values.{Value, Row}
use Rattle.meaning.specs.Crawls.{IsOfMethod}
use Rattle.crawl_rounds.specs.Rows.{Marked, class_rows, row_count}

-- The relation and the inputs of methods.
abbrev pub Class : Type 0
Class = ℕ × List ℕ

-- Classes are ordered by relation, then by inputs.
abbrev pub class_cmp : Class → Class → Ordering
class_cmp x y = ordering_then (nat_cmp x.0 y.0) (slice_cmp nat_cmp x.1 y.1)

-- The classes of methods, each once and in ascending order.
pub record AreClasses (methods : List Method) (classes : List Class) : Type 0 where
  pub ascend : IsStrictlySortedBy class_cmp classes
  pub exactly : (class : Class) → Contains classes class
      ↔ ((method : Method) × Contains methods method × (method.rel ≡ class.0) × (method.inputs ≡ class.1))

-- The request of a class with a row of values.
abbrev pub request_of : Class → Row → Request
request_of class row = record { rel = class.0; positions = class.1; values = row }

-- The requests of a round: class by class, and row by row.
abbrev pub round_requests : Bool → List Marked → List Class → List Request
round_requests first values classes =
    flat_map (λ class. map (request_of class) (class_rows first values (length class.1))) classes

-- How many these are, by the number of known values and of the new ones among them.
abbrev pub round_count : Bool → ℕ → ℕ → List Class → ℕ
round_count first known fresh classes = sum_by (λ class. row_count first known fresh (length class.1)) classes

-- Values by their bytes.
abbrev pub marked_cmp : Marked → Marked → Ordering
marked_cmp x y = slice_cmp nat_cmp x.0 y.0

-- Marked values are the known ones, each once and in ascending order, and new are those that were not known before.
pub record AreKnown (Old Known : Value → Type 0) (values : List Marked) : Type 0 where
  pub ascend : IsStrictlySortedBy marked_cmp values
  pub known : (v : Value) → ((mark : Bool) × Contains values (v, mark)) ↔ Known v
  pub fresh : (v : Value) → Contains values (v, true) → Old v → ⊥
  pub old : (v : Value) → Contains values (v, false) → Old v

-- The requests so far are just those that could be asked with the old values, where a round was asked, and else none.
abbrev pub WereAsked : SchemaParts → Bool → (Value → Type 0) → List Request → Type 0
WereAsked schema first Old earlier =
    (request : Request) → Contains earlier request
    ↔ (IsOfMethod schema request × ((v : Value) → Contains request.values v → Old v) × (first ≡ false))
