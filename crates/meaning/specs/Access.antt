-- The accessible part of an instance (Benedikt, Leblay, ten Cate and Tsamoura 2016, access schemas).
use Rattle.std.specs.Prelude.{◌≡◌, ◌⊎◌, ℕ, List, [], ◌∷◌, Contains, slice_get, Some}
use Rattle.meaning.specs.declared.types.Method.{Method}
use Rattle.meaning.specs.declared.types.SchemaParts.{SchemaParts}
use Rattle.meaning.specs.declared.types.Fact.{Fact}
use Rattle.meaning.specs.Values.{Value}

-- A value is known after some facts where it is a constant of the list or stands in one of the facts.
abbrev pub IsKnown : List Value → List Fact → Value → Type 0
IsKnown constants facts value =
    Contains constants value ⊎ ((fact : Fact) × Contains facts fact × Contains fact.row value)

-- A fact can be accessed after others where some method of its relation has known values at all its inputs.
pub record CanAccess (schema : SchemaParts) (constants : List Value) (earlier : List Fact)
    (fact : Fact) : Type 0 where
  pub method : Method
  pub of_schema : Contains schema.methods method
  pub of_relation : method.rel ≡ fact.rel
  pub inputs : (p : ℕ) → Contains method.inputs p →
      (value : Value) × (slice_get fact.row p ≡ Some value) × IsKnown constants earlier value

-- An access path is a list of facts of the instance, the last one first, each of which can be accessed after those
-- before it.
abbrev pub IsAccessPath : SchemaParts → List Value → List Fact → List Fact → Type 0
IsAccessPath schema constants facts [] = Unit {0}
IsAccessPath schema constants facts (fact ∷ earlier) =
    Contains facts fact × CanAccess schema constants earlier fact × IsAccessPath schema constants facts earlier

-- A fact is accessible where an access path ends with it.
abbrev pub IsAccessible : SchemaParts → List Value → List Fact → Fact → Type 0
IsAccessible schema constants facts fact =
    (earlier : List Fact) × IsAccessPath schema constants facts (fact ∷ earlier)
