-- The rows of a plan on an instance (Benedikt, Leblay, ten Cate and Tsamoura 2016, plans).
-- A partial row has one value for each column made so far.
use Rattle.std.specs.Prelude.{◌≡◌, List, [], ◌∷◌, ◌++◌, Contains, slice_get, Some}
use Rattle.std.specs.List.{AllZip}
use Rattle.meaning.specs.declared.types.Method.{Method}
use Rattle.meaning.specs.declared.types.SchemaParts.{SchemaParts}
use Rattle.meaning.specs.declared.types.Fact.{Fact}
use Rattle.meaning.specs.declared.types.Place.{Place}
use Rattle.meaning.specs.declared.types.Out.{Out}
use Rattle.meaning.specs.declared.types.Step.{Step}
use Rattle.meaning.specs.declared.types.Branch.{Branch}
use Rattle.meaning.specs.declared.types.Plan.{Plan}
use Rattle.meaning.specs.declared.types.Place.TheVariants.{Const, Col, New}
use Rattle.meaning.specs.declared.types.Out.TheVariants.{Const as Fixed, Col as Made}
use Rattle.meaning.specs.Values.{Value, Row}
use Rattle.meaning.specs.Plans.{IsMethod}

-- A fact's values join a partial row where they agree with the places' constants and columns; the row grows by the
-- values at the new places, and a later place may name a column that an earlier one has made.
abbrev pub Joins : List Place → Row → Row → Row → Type 0
Joins [] [] row next = next ≡ row
Joins (Const c ∷ places) (value ∷ values) row next = (value ≡ c) × Joins places values row next
Joins (Col k ∷ places) (value ∷ values) row next = (slice_get row k ≡ Some value) × Joins places values row next
Joins (New ∷ places) (value ∷ values) row next = Joins places values (row ++ value ∷ []) next
Joins [] (value ∷ values) row next = ⊥
Joins (place ∷ places) [] row next = ⊥

-- A step takes a partial row to the next one where a fact of its method's relation joins it.
pub record StepsTo (schema : SchemaParts) (facts : List Fact) (step : Step) (row next : Row) : Type 0 where
  pub method : Method
  pub fact : Fact
  pub named : IsMethod schema step.method method
  pub of_relation : fact.rel ≡ method.rel
  pub holds : Contains facts fact
  pub joins : Joins step.places fact.row row next

-- Steps lead from a partial row to another where each takes it one further.
abbrev pub LeadsTo : SchemaParts → List Fact → List Step → Row → Row → Type 0
LeadsTo schema facts [] row last = last ≡ row
LeadsTo schema facts (step ∷ steps) row last =
    (next : Row) × StepsTo schema facts step row next × LeadsTo schema facts steps next last

-- The value of an output place is the constant, or the partial row's at the column.
abbrev pub IsOut : Row → Out → Value → Type 0
IsOut row (Fixed c) value = value ≡ c
IsOut row (Made k) value = slice_get row k ≡ Some value

-- A row is a branch's where it is the output of a partial row to which the steps lead from the empty one.
abbrev pub IsBranchRow : SchemaParts → Branch → List Fact → Row → Type 0
IsBranchRow schema branch facts row =
    (last : Row) × LeadsTo schema facts branch.steps [] last × AllZip (IsOut last) branch.output row

-- A row is a plan's where it is a row of one of the branches.
abbrev pub IsRow : SchemaParts → Plan → List Fact → Row → Type 0
IsRow schema plan facts row = (branch : Branch) × Contains plan.branches branch × IsBranchRow schema branch facts row
