-- What a plan asks in a round, and what becomes of the answers.
use Rattle.std.specs.Prelude.{◌≡◌, ◌↔◌, ◌+◌, ℕ, List, [], Contains, Option, None, Some, length, slice_get}
use Rattle.meaning.specs.declared.types.SchemaParts.{SchemaParts}
use Rattle.meaning.specs.declared.types.Step.{Step}
use Rattle.meaning.specs.declared.types.Branch.{Branch}
use Rattle.meaning.specs.declared.types.Plan.{Plan}
use Rattle.meaning.specs.declared.types.Request.{Request}
use Rattle.meaning.specs.Plans.{IsMethod}
use Rattle.access_schema.specs.declared.schema.Schema.{Schema}
use Rattle.access_schema.specs.Meaning.{meaning_of}
use Rattle.source_trait.specs.Asking.{RowList}
use Rattle.middleware.specs.Asked.{IsStepRequest}
use Rattle.middleware.specs.BlockRounds.{Asks, Checks}
use Rattle.middleware.specs.Branches.{IsReadyBranch}
use Rattle.middleware.specs.Joining.{AreJoined}
use Rattle.middleware.specs.Rounds.{IsWanted, requests_of}
use Rattle.middleware.specs.declared.block_round.Asking.{Asking}
use Rattle.shared_rounds.specs.SharedRounds.{Turn}
use Rattle.plan_course.specs.Courses.{IsWithin, live_from}
use Rattle.plan_course.specs.declared.course.Course.{Course}
use Rattle.plan_course.specs.declared.turns.Pending.{Pending}
use Rattle.plan_course.specs.declared.turns.Next.{Next}
use Rattle.plan_course.specs.declared.turns.Next.TheVariants.{Done, Wants}

-- What the course's step in the branch asks. The partial rows that ask, and the blocks beside them, wait for the answers.
pub record AsksIn (schema : Schema) (its : Branch) (course : Course) (pending : Pending) : Type 0 where
  pub step : Step
  pub of_branch : slice_get its.steps course.step ≡ Some step
  pub named : IsMethod (meaning_of schema) step.method pending.method
  pub wanted : IsWanted pending.places pending.method.inputs pending.wanted.rows pending.wanted.requests
  pub ready : IsReadyBranch (meaning_of schema) its
  pub stands : IsWithin its course
  -- the table that asks, and the blocks beside it
  pub asking : Asking
  pub asks : Asks step pending.method.inputs course.count course.blocks.items asking
  pub same : (row : List (List ℕ)) → Contains pending.wanted.rows row ↔ Contains asking.rows row
  pub places_are : pending.places ≡ asking.step.places
  pub columns_are : pending.columns ≡ asking.columns
  pub count_is : pending.count ≡ asking.count
  pub rest_are : pending.rest.items ≡ asking.rest.items
  -- what stays
  pub branch_is : pending.branch ≡ course.branch
  pub step_is : pending.step ≡ course.step
  pub rows_are : pending.rows ≡ course.rows

-- What the course's step asks.
pub record IsPending (schema : Schema) (plan : Plan) (course : Course) (pending : Pending) : Type 0 where
  pub its : Branch
  pub of_plan : slice_get plan.branches course.branch ≡ Some its
  pub asks : AsksIn schema its course pending

-- what the course's step asks, or the course where no step is left
abbrev pub IsNext : Schema → Plan → Course → Next → Type 0
IsNext schema plan course (Wants pending) = IsPending schema plan course pending
IsNext schema plan course (Done same) = (same ≡ course) × (course.branch ≡ length plan.branches)

-- the requests
abbrev pub asks_of : Next → List Request
asks_of (Wants pending) = requests_of pending.method.rel pending.method.inputs pending.wanted.requests
asks_of (Done course) = []

-- each request is one of the step, or there is none where there is no step
abbrev pub AreOfTurn : SchemaParts → Option Turn → List Request → Type 0
AreOfTurn schema None requests = requests ≡ []
AreOfTurn schema (Some turn) requests = (request : Request) → Contains requests request → IsStepRequest schema turn.its request

-- The partial rows that asked grew by the answers, and were checked against the blocks beside them: one more step of the branch is done.
pub record Grows (its : Branch) (pending : Pending) (answers : List RowList) (next : Course) : Type 0 where
  pub rows : RowList
  pub joined : AreJoined pending.places pending.method.inputs pending.wanted.requests answers pending.wanted.rows rows
  pub checks : Checks (live_from its (pending.step + 1)) pending.count (record { columns = pending.columns; rows = rows })
      pending.rest.items
      next.blocks.items
  pub branch_is : next.branch ≡ pending.branch
  pub step_is : next.step ≡ pending.step + 1
  pub count_is : next.count ≡ pending.count
  pub rows_are : next.rows ≡ pending.rows
