-- Which plans can be written as a text, and how many branches and steps a plan may have.
use Rattle.std.specs.Prelude.{◌≢◌, ◌<◌, ◌≤◌, ◌^◌, [], length}
use Rattle.std.specs.List.{AllByRecursion}
use Rattle.meaning.specs.declared.types.Place.{Place}
use Rattle.meaning.specs.declared.types.Out.{Out}
use Rattle.meaning.specs.declared.types.Step.{Step}
use Rattle.meaning.specs.declared.types.Branch.{Branch}
use Rattle.meaning.specs.declared.types.Plan.{Plan}
use Rattle.meaning.specs.declared.types.Place.TheVariants.{Const, Col, New}
use Rattle.meaning.specs.declared.types.Out.TheVariants.{Const as Fixed, Col as Made}

-- A column that is written has a number of 32 bits.
abbrev pub IsWritablePlace : Place → Type 0
IsWritablePlace (Const c) = Unit {0}
IsWritablePlace (Col k) = k < 2 ^ 32
IsWritablePlace New = Unit {0}

-- The same of a place of an output.
abbrev pub IsWritableOut : Out → Type 0
IsWritableOut (Fixed c) = Unit {0}
IsWritableOut (Made k) = k < 2 ^ 32

-- A step that is written names a method and has one place or more.
pub record IsWritableStep (step : Step) : Type 0 where
  pub named : step.method ≢ []
  pub some : step.places ≢ []
  pub places : AllByRecursion IsWritablePlace step.places

-- A branch that is written has such steps, or none, and an output of one place or more.
pub record IsWritableBranch (branch : Branch) : Type 0 where
  pub steps : AllByRecursion IsWritableStep branch.steps
  pub some : branch.output ≢ []
  pub outs : AllByRecursion IsWritableOut branch.output

-- A plan that is written is 1 to 64 values wide.
pub record IsWritable (plan : Plan) : Type 0 where
  pub some : 1 ≤ plan.width
  pub most : plan.width ≤ 64
  pub branches : AllByRecursion IsWritableBranch plan.branches

-- A plan has at most 1,048,576 branches, and each of them at most 1,048,576 steps.
pub record HasFewSteps (plan : Plan) : Type 0 where
  pub branches : length plan.branches ≤ 1048576
  pub steps : AllByRecursion (λ branch. length branch.steps ≤ 1048576) plan.branches

-- A plan that can be written and is within these limits, as each plan that is read.
pub record PlanFits (plan : Plan) : Type 0 where
  pub writable : IsWritable plan
  pub few : HasFewSteps plan
