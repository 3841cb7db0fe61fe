-- Plans over access methods, and which of them are lawful (Benedikt, Leblay, ten Cate and Tsamoura 2016, plans).
use Rattle.std.specs.Prelude.{◌≡◌, ℕ, ◌+◌, ◌<◌, List, [], ◌∷◌, Contains, length, slice_get, Some}
use Rattle.meaning.specs.declared.types.Method.{Method}
use Rattle.meaning.specs.declared.types.Relation.{Relation}
use Rattle.meaning.specs.declared.types.SchemaParts.{SchemaParts}
use Rattle.meaning.specs.declared.types.Place.{Place}
use Rattle.meaning.specs.declared.types.Out.{Out}
use Rattle.meaning.specs.declared.types.Step.{Step}
use Rattle.meaning.specs.declared.types.Branch.{Branch}
use Rattle.meaning.specs.declared.types.Plan.{Plan}
use Rattle.meaning.specs.declared.types.Place.TheVariants.{Const, Col, New}
use Rattle.meaning.specs.declared.types.Out.TheVariants.{Const as Fixed, Col as Made}
use Rattle.meaning.specs.Values.{Value}
use Rattle.meaning.specs.Instances.{FitsRelation}

-- A schema is well formed where its methods have different names and their inputs are columns of their relations.
pub record IsWellFormed (schema : SchemaParts) : Type 0 where
  pub once : (first second : Method) → Contains schema.methods first → Contains schema.methods second →
      first.name ≡ second.name → first ≡ second
  pub inputs : (method : Method) (relation : Relation) (p : ℕ) → Contains schema.methods method →
      slice_get schema.relations method.rel ≡ Some relation → Contains method.inputs p → p < length relation.columns

-- A name stands for the schema's method that has it.
abbrev pub IsMethod : SchemaParts → Value → Method → Type 0
IsMethod schema name method = Contains schema.methods method × (method.name ≡ name)

-- Each of the steps names a method of the schema.
abbrev pub NamesMethods : SchemaParts → List Step → Type 0
NamesMethods schema steps = (step : Step) → Contains steps step → (method : Method) × IsMethod schema step.method method

-- Each new place makes the next column.
abbrev pub made : ℕ → List Place → ℕ
made columns [] = columns
made columns (New ∷ places) = made (columns + 1) places
made columns (Const c ∷ places) = made columns places
made columns (Col k ∷ places) = made columns places

-- The places from position p on are lawful, in a step that began with `began` columns where there are `columns` by now:
-- an input is a constant of the list or a column from before the step; another place may also be new, or any column
-- that exists there.
abbrev pub AreLawfulPlaces : List Value → List ℕ → ℕ → ℕ → ℕ → List Place → Type 0
AreLawfulPlaces constants inputs began p columns [] = Unit {0}
AreLawfulPlaces constants inputs began p columns (Const c ∷ places) =
    Contains constants c × AreLawfulPlaces constants inputs began (p + 1) columns places
AreLawfulPlaces constants inputs began p columns (Col k ∷ places) =
    (k < columns) × (Contains inputs p → k < began) × AreLawfulPlaces constants inputs began (p + 1) columns places
AreLawfulPlaces constants inputs began p columns (New ∷ places) =
    (Contains inputs p → ⊥) × AreLawfulPlaces constants inputs began (p + 1) (columns + 1) places

-- An output place is lawful where it is a constant of the list or a column that exists.
abbrev pub IsLawfulOut : List Value → ℕ → Out → Type 0
IsLawfulOut constants columns (Fixed c) = Contains constants c
IsLawfulOut constants columns (Made k) = k < columns

-- A step is lawful by the method that its name stands for, where it has a lawful place for each column of the method's
-- relation.
pub record IsLawfulStep (schema : SchemaParts) (constants : List Value) (columns : ℕ) (step : Step)
    (method : Method) : Type 0 where
  pub named : IsMethod schema step.method method
  pub arity : FitsRelation schema method.rel step.places
  pub places : AreLawfulPlaces constants method.inputs columns 0 columns step.places

-- From so many columns on, the steps are lawful one after another, and then the output is.
abbrev pub AreLawfulFrom : SchemaParts → List Value → ℕ → List Step → List Out → Type 0
AreLawfulFrom schema constants columns [] output =
    (out : Out) → Contains output out → IsLawfulOut constants columns out
AreLawfulFrom schema constants columns (step ∷ steps) output =
    (method : Method) × IsLawfulStep schema constants columns step method
    × AreLawfulFrom schema constants (made columns step.places) steps output

-- A branch is lawful where its steps and its output are, from no column on.
abbrev pub IsLawfulBranch : SchemaParts → List Value → Branch → Type 0
IsLawfulBranch schema constants branch = AreLawfulFrom schema constants 0 branch.steps branch.output

-- A plan is lawful where each branch is lawful and gives as many values as the plan is wide.
abbrev pub IsLawful : Plan → SchemaParts → List Value → Type 0
IsLawful plan schema constants =
    (branch : Branch) → Contains plan.branches branch →
    (length branch.output ≡ plan.width) × IsLawfulBranch schema constants branch
