-- How far one plan has come.
use Rattle.std.specs.Prelude.{◌≡◌, ◌↔◌, ◌≤◌, ◌<◌, ◌+◌, ◌^◌, ℕ, List, [], Bool, Contains, Option, None, Some, drop, length, slice_get, take}
use Rattle.meaning.specs.declared.types.SchemaParts.{SchemaParts}
use Rattle.meaning.specs.declared.types.Fact.{Fact}
use Rattle.meaning.specs.declared.types.Out.{Out}
use Rattle.meaning.specs.declared.types.Branch.{Branch}
use Rattle.meaning.specs.declared.types.Plan.{Plan}
use Rattle.meaning.specs.Rows.{IsBranchRow}
use Rattle.source_trait.specs.Asking.{RowList}
use Rattle.middleware.specs.Blocks.{AreBlocks, AreTables, HaveLive}
use Rattle.middleware.specs.BlockRounds.{AddsOutputs}
use Rattle.middleware.specs.Branches.{ArePartial, IsReadyBranch, IsReadyOut, columns_after}
use Rattle.middleware.specs.Live.{is_live}
use Rattle.shared_rounds.specs.SharedRounds.{Turn, steps_in, turns_of}
use Rattle.plan_course.specs.declared.course.Course.{Course}

-- ---- the plans

-- each branch is ready
abbrev pub AreReadyBranches : SchemaParts → Plan → Type 0
AreReadyBranches schema plan = (branch : Branch) → Contains plan.branches branch → IsReadyBranch schema branch

-- the columns of the branch's output exist after its steps
abbrev pub HasOutputs : Branch → Type 0
HasOutputs branch = (out : Out) → Contains branch.output out → IsReadyOut (columns_after 0 branch.steps) out

abbrev pub HaveOutputs : Plan → Type 0
HaveOutputs plan = (branch : Branch) → Contains plan.branches branch → HasOutputs branch

-- branches and steps can be numbered
abbrev pub CanNumber : Plan → Type 0
CanNumber plan = (length plan.branches < 2 ^ 32) × ((branch : Branch) → Contains plan.branches branch → length branch.steps < 2 ^ 32)

-- ---- where a course stands

-- whether the output of the branch, or one of its steps from a number on, names the column
abbrev pub live_from : Branch → ℕ → ℕ → Bool
live_from its step = is_live (drop step its.steps) its.output

-- So many steps of a branch are done: the blocks are over the columns so far, and have each one that is named later.
pub record IsWithin (its : Branch) (course : Course) : Type 0 where
  pub within : course.step ≤ length its.steps
  pub count_is : course.count ≡ columns_after 0 (take course.step its.steps)
  pub tables : AreTables course.count course.blocks.items
  pub live_columns : HaveLive (live_from its course.step) course.count course.blocks.items

-- some steps of the branch are done, or all branches where there is none
abbrev pub StandsIn : Plan → Course → Option Branch → Type 0
StandsIn plan course None = (course.branch ≡ length plan.branches) × (course.step ≡ 0)
StandsIn plan course (Some its) = IsWithin its course

-- some steps of the branch of the course's number are done, or all branches
abbrev pub Stands : Plan → Course → Type 0
Stands plan course = StandsIn plan course (slice_get plan.branches course.branch)

-- the course is before this step, or behind all steps where there is none
abbrev pub IsBefore : Plan → Option Turn → Course → Type 0
IsBefore plan None course = course.branch ≡ length plan.branches
IsBefore plan (Some turn) course = (course.branch ≡ turn.branch) × (course.step ≡ turn.step)

-- The course is before the plan's nth step, or behind all steps where there is no such step.
pub record IsAt (plan : Plan) (n : ℕ) (course : Course) : Type 0 where
  pub stands : Stands plan course
  pub before : IsBefore plan (slice_get (turns_of plan) n) course

-- ---- what it knows of an instance

-- the rows are just those of the branches
abbrev pub AreRowsOf : SchemaParts → List Fact → List Branch → RowList → Type 0
AreRowsOf schema facts branches rows =
    (row : List (List ℕ)) → Contains rows row ↔ ((branch : Branch) × Contains branches branch × IsBranchRow schema branch facts row)

-- the blocks are those of the partial rows of the branch's steps that are done
pub record HasPartial (schema : SchemaParts) (facts : List Fact) (its : Branch) (course : Course) : Type 0 where
  pub partial : RowList
  pub partial_are : ArePartial schema facts (take course.step its.steps) partial
  pub blocks_are : AreBlocks (live_from its course.step) course.count partial course.blocks.items

abbrev pub HasPartialIn : SchemaParts → List Fact → Course → Option Branch → Type 0
HasPartialIn schema facts course None = Unit {0}
HasPartialIn schema facts course (Some its) = HasPartial schema facts its course

-- On an instance: the rows are just those of the branches that are done, and the blocks are those of the partial rows in the next one.
pub record Knows (schema : SchemaParts) (facts : List Fact) (plan : Plan) (course : Course) : Type 0 where
  pub rows_are : AreRowsOf schema facts (take course.branch plan.branches) course.rows
  pub partial : HasPartialIn schema facts course (slice_get plan.branches course.branch)

-- ---- from a branch to the next one

-- the outputs of a branch were added, and the next one begins
pub record Passes (its : Branch) (old new : Course) : Type 0 where
  pub outputs : AddsOutputs its.output old.count old.blocks.items old.rows new.rows
  pub branch_is : new.branch ≡ old.branch + 1
  pub step_is : new.step ≡ 0
  pub count_is : new.count ≡ 0
  pub blocks_are : new.blocks.items ≡ []

-- a step of the branch is not done yet
abbrev pub HasStep : Course → Option Branch → Type 0
HasStep course None = Unit {0}
HasStep course (Some its) = course.step < length its.steps

-- how many steps of the plan are done
abbrev pub steps_done : Plan → Course → ℕ
steps_done plan course = steps_in (take course.branch plan.branches) + course.step

-- Branches whose steps are done were passed over, up to one that has a step left.
pub record Settles (plan : Plan) (old new : Course) : Type 0 where
  pub stands : Stands plan new
  pub has_step : HasStep new (slice_get plan.branches new.branch)
  pub same : steps_done plan new ≡ steps_done plan old
