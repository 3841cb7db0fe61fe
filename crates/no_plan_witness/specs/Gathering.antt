-- Facts that are taken one after another, each where it can be accessed after those taken before.
use Rattle.std.specs.Prelude.{◌≡◌, ◌⊎◌, ℕ, List, Contains, slice_get, Some}
use Rattle.meaning.specs.declared.types.Fact.{Fact}
use Rattle.meaning.specs.declared.types.SchemaParts.{SchemaParts}
use Rattle.meaning.specs.Values.{Value, Row}
use Rattle.meaning.specs.Access.{IsAccessPath, IsKnown}
use Rattle.meaning.specs.Search.{AreDistinct}

-- A row knows its value at a position where it has one there that is known after some facts.
abbrev pub KnowsAt : List Value → List Fact → Row → ℕ → Type 0
KnowsAt constants earlier row p = (value : Value) × (slice_get row p ≡ Some value) × IsKnown constants earlier value

-- A row knows its inputs where it knows its value at each of the positions.
abbrev pub KnowsInputs : List Value → List Fact → Row → List ℕ → Type 0
KnowsInputs constants earlier row inputs = (p : ℕ) → Contains inputs p → KnowsAt constants earlier row p

-- A value is one of some facts where it stands in the row of one of them.
abbrev pub IsValueOf : List Fact → Value → Type 0
IsValueOf facts value = (fact : Fact) × Contains facts fact × Contains fact.row value

-- A part is gathered where it is an access path without doubles, and each fact is in it or waits.
pub record Gathered (schema : SchemaParts) (constants : List Value) (facts waiting part : List Fact) : Type 0 where
  pub path : IsAccessPath schema constants facts part
  pub once : AreDistinct part
  pub waits : (fact : Fact) → Contains waiting fact → Contains facts fact
  pub each : (fact : Fact) → Contains facts fact → Contains waiting fact ⊎ Contains part fact
