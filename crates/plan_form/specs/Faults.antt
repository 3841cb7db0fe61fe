-- The first fault of a plan that is not lawful: branch by branch, step by step and place by place.
use Rattle.std.specs.Prelude.{◌≡◌, ◌≢◌, ◌⊎◌, ◌<◌, ◌≤◌, ℕ, List, [], ◌∷◌, Contains, length, take, slice_get, Some}
use Rattle.meaning.specs.declared.types.Place.{Place}
use Rattle.meaning.specs.declared.types.Place.TheVariants.{Const, Col, New}
use Rattle.meaning.specs.declared.types.Out.{Out}
use Rattle.meaning.specs.declared.types.Out.TheVariants.{Const as Fixed, Col as Made}
use Rattle.meaning.specs.declared.types.Step.{Step}
use Rattle.meaning.specs.declared.types.Branch.{Branch}
use Rattle.meaning.specs.declared.types.Plan.{Plan}
use Rattle.meaning.specs.declared.types.Method.{Method}
use Rattle.meaning.specs.declared.types.SchemaParts.{SchemaParts}
use Rattle.meaning.specs.Values.{Value}
use Rattle.meaning.specs.Instances.{FitsRelation}
use Rattle.meaning.specs.Plans.{IsMethod, made, AreLawfulPlaces, IsLawfulOut, AreLawfulFrom, IsLawfulBranch}
use Rattle.plan_form.specs.declared.fault.PlanFaultKind.{PlanFaultKind}
use Rattle.plan_form.specs.declared.fault.PlanFaultKind.TheVariants.{NoSuchMethod, InputNotKnown, UnknownConstant, BadColumn, WrongArity}
use Rattle.plan_form.specs.declared.fault.PlanFault.{PlanFault}

-- ---- places

-- What is wrong at position p of a step that began with `began` columns, where there are `columns` by now: a constant that
-- is not known, a column that does not exist, or an input that is new or was made in the same step.
abbrev pub IsPlaceFault : List Value → List ℕ → ℕ → ℕ → ℕ → Place → PlanFaultKind → Type 0
IsPlaceFault constants inputs began p columns (Const c) kind = (kind ≡ UnknownConstant) × (Contains constants c → ⊥)
IsPlaceFault constants inputs began p columns (Col k) kind =
    ((kind ≡ BadColumn) × (columns ≤ k)) ⊎ ((kind ≡ InputNotKnown) × Contains inputs p × (k < columns) × (began ≤ k))
IsPlaceFault constants inputs began p columns New kind = (kind ≡ InputNotKnown) × Contains inputs p

-- The places before position p are lawful, and the one at p is not.
pub record HasPlaceFault (constants : List Value) (inputs : List ℕ) (began : ℕ) (places : List Place) (p : ℕ)
    (kind : PlanFaultKind) : Type 0 where
  pub place : Place
  pub at : slice_get places p ≡ Some place
  pub before : AreLawfulPlaces constants inputs began 0 began (take p places)
  pub is : IsPlaceFault constants inputs began p (made began (take p places)) place kind

-- ---- steps

-- What is wrong with a step of this method: it has not a place for each column, or one of its places is at fault.
abbrev pub IsFaultOfMethod : SchemaParts → List Value → ℕ → Step → Method → ℕ → PlanFaultKind → Type 0
IsFaultOfMethod schema constants columns step method p kind =
    ((kind ≡ WrongArity) × (p ≡ 0) × (FitsRelation schema method.rel step.places → ⊥))
    ⊎ (FitsRelation schema method.rel step.places × HasPlaceFault constants method.inputs columns step.places p kind)

-- What is wrong with a step: no method has its name, or it is at fault by the method that has.
abbrev pub IsStepFault : SchemaParts → List Value → ℕ → Step → ℕ → PlanFaultKind → Type 0
IsStepFault schema constants columns step p kind =
    ((kind ≡ NoSuchMethod) × (p ≡ 0) × ((method : Method) → IsMethod schema step.method method → ⊥))
    ⊎ ((method : Method) × IsMethod schema step.method method × IsFaultOfMethod schema constants columns step method p kind)

-- how many columns there are behind the steps
abbrev pub made_by : ℕ → List Step → ℕ
made_by columns [] = columns
made_by columns (step ∷ steps) = made_by (made columns step.places) steps

-- The steps before step s are lawful, and step s is not.
pub record HasStepFault (schema : SchemaParts) (constants : List Value) (steps : List Step) (s p : ℕ)
    (kind : PlanFaultKind) : Type 0 where
  pub step : Step
  pub at : slice_get steps s ≡ Some step
  pub before : AreLawfulFrom schema constants 0 (take s steps) []
  pub is : IsStepFault schema constants (made_by 0 (take s steps)) step p kind

-- ---- outputs

-- What is wrong at a place of an output: a constant that is not known, or a column that does not exist.
abbrev pub IsOutFault : List Value → ℕ → Out → PlanFaultKind → Type 0
IsOutFault constants columns (Fixed c) kind = (kind ≡ UnknownConstant) × (Contains constants c → ⊥)
IsOutFault constants columns (Made k) kind = (kind ≡ BadColumn) × (columns ≤ k)

-- The output places before position p are lawful, and the one at p is not.
pub record HasOutFault (constants : List Value) (columns : ℕ) (outs : List Out) (p : ℕ) (kind : PlanFaultKind) : Type 0 where
  pub out : Out
  pub at : slice_get outs p ≡ Some out
  pub before : (earlier : Out) → Contains (take p outs) earlier → IsLawfulOut constants columns earlier
  pub is : IsOutFault constants columns out kind

-- What is wrong with an output: it has not as many values as the plan is wide, or one of its places is at fault.
abbrev pub IsOutputFault : List Value → ℕ → ℕ → List Out → ℕ → PlanFaultKind → Type 0
IsOutputFault constants columns width outs p kind =
    ((kind ≡ WrongArity) × (p ≡ 0) × (length outs ≢ width)) ⊎ ((length outs ≡ width) × HasOutFault constants columns outs p kind)

-- ---- branches and plans

-- What is wrong with a branch: a step, or, where all steps are lawful, the output, which counts as the step behind them.
abbrev pub IsBranchFault : SchemaParts → List Value → ℕ → Branch → ℕ → ℕ → PlanFaultKind → Type 0
IsBranchFault schema constants width branch s p kind =
    HasStepFault schema constants branch.steps s p kind
    ⊎ ((s ≡ length branch.steps) × AreLawfulFrom schema constants 0 branch.steps []
    × IsOutputFault constants (made_by 0 branch.steps) width branch.output p kind)

-- The first fault of a plan: the branches before it are lawful and as wide as the plan.
pub record IsFirstFault (plan : Plan) (schema : SchemaParts) (constants : List Value) (fault : PlanFault) : Type 0 where
  pub branch : Branch
  pub at : slice_get plan.branches fault.branch ≡ Some branch
  pub before : (earlier : Branch) → Contains (take fault.branch plan.branches) earlier →
      (length earlier.output ≡ plan.width) × IsLawfulBranch schema constants earlier
  pub is : IsBranchFault schema constants plan.width branch fault.step fault.place fault.kind
