-- What the rounds of a plan did on the lanes, and why they stopped.
use Rattle.std.specs.Prelude.{◌≡◌, ◌↔◌, ◌⊎◌, ℕ, ◌-◌, ◌+◌, ◌^◌, ◌<◌, ◌≤◌, min, List, [], ◌++◌, length, take, Contains, Option, None, Some, slice_get}
use Rattle.meaning.specs.declared.types.Fact.{Fact}
use Rattle.meaning.specs.declared.types.Method.{Method}
use Rattle.meaning.specs.declared.types.SchemaParts.{SchemaParts}
use Rattle.meaning.specs.declared.types.Step.{Step}
use Rattle.meaning.specs.declared.types.Branch.{Branch}
use Rattle.meaning.specs.declared.types.Plan.{Plan}
use Rattle.meaning.specs.declared.types.Request.{Request}
use Rattle.meaning.specs.Plans.{IsMethod}
use Rattle.meaning.specs.Rows.{IsRow}
use Rattle.meaning.specs.Requests.{IsRound, AreStepsRequests, AreBranchesRequests, AreRequests}
use Rattle.access_schema.specs.declared.schema.Schema.{Schema}
use Rattle.access_schema.specs.Meaning.{meaning_of}
use Rattle.source_trait.specs.Asking.{RowList, Seen}
use Rattle.source_trait.specs.declared.lanes.Lane.{Lane}
use Rattle.middleware.specs.Asked.{IsStepRequest}
use Rattle.middleware.specs.LaneRounds.{AsksEach, AsksSome, NoneStopped}
use Rattle.middleware.specs.LaneBranches.{LanesHoldPlan, FailsOnLane}
use Rattle.bad_numbers.specs.Numbers.{ReceiveFirstBad, ReceiveIntegers}
use Rattle.middleware.specs.declared.fault.RunFault.{RunFault}
use Rattle.middleware.specs.declared.fault.RunFault.TheVariants as fault

-- ---- the rounds before one

-- the branch and the step of these numbers
pub record IsStepAt (plan : Plan) (branch step : ℕ) (its_branch : Branch) (its_step : Step) : Type 0 where
  pub of_plan : slice_get plan.branches branch ≡ Some its_branch
  pub of_branch : slice_get its_branch.steps step ≡ Some its_step

-- the steps of the branch of a number
abbrev pub steps_of : Option Branch → List Step
steps_of None = []
steps_of (Some branch) = branch.steps

-- the requests of all rounds before that of a step: those of the branches before, and those of the branch's steps
-- before
pub record AreRoundsBefore (schema : SchemaParts) (plan : Plan) (instance : List Fact) (branch step : ℕ)
    (earlier : List Request)
    : Type 0 where
  pub of_branches : List Request
  pub of_steps : List Request
  pub branches_are : AreBranchesRequests schema instance (take branch plan.branches) of_branches
  pub steps_are : AreStepsRequests schema instance [] (take step (steps_of (slice_get plan.branches branch))) of_steps
  pub earlier_is : earlier ≡ of_branches ++ of_steps

-- the requests of all rounds before that of a step, and those of its own round
pub record IsRoundAt (schema : SchemaParts) (plan : Plan) (instance : List Fact) (branch step : ℕ)
    (earlier now : List Request) : Type 0 where
  pub its_branch : Branch
  pub its_step : Step
  pub there : IsStepAt plan branch step its_branch its_step
  -- those of the branches before, and those of the branch's steps before
  pub of_branches : List Request
  pub of_steps : List Request
  pub branches_are : AreBranchesRequests schema instance (take branch plan.branches) of_branches
  pub steps_are : AreStepsRequests schema instance [] (take step its_branch.steps) of_steps
  pub earlier_is : earlier ≡ of_branches ++ of_steps
  pub now_is : IsRound schema instance (take step its_branch.steps) its_step now

-- each request is one of a step of the plan
abbrev pub AreOfPlan : SchemaParts → Plan → List Request → Type 0
AreOfPlan schema plan requests = (request : Request) → Contains requests request →
    (branch : Branch) × (step : Step) × Contains plan.branches branch × Contains branch.steps step
    × IsStepRequest schema step request

-- ---- on lanes

module _ {S : Type 0} (seen : S → Seen) (schema : Schema) (plan : Plan) where
  -- All rounds were asked: the plan's rows, and its requests, each once by one of the lanes.
  pub record LanesDone (rows : RowList) (total : ℕ) (old new : List (Lane S)) : Type 0 where
    pub list : List Request
    pub asks : AsksEach seen schema list old new
    pub count : total ≡ length list
    pub of_plan : AreOfPlan (meaning_of schema) plan list
    pub rows_are : (instance : List Fact) → LanesHoldPlan seen schema plan old instance
        → (row : List (List ℕ)) → Contains rows row ↔ IsRow (meaning_of schema) plan instance row
    pub are : (instance : List Fact) → LanesHoldPlan seen schema plan old instance
        → AreRequests (meaning_of schema) plan instance list
    pub numbers : (instance : List Fact) → LanesHoldPlan seen schema plan old instance
        → ReceiveIntegers (meaning_of schema) instance list

  -- A call of the step's round failed, whose requests there was room for; so each round before it was asked whole.
  pub record CallFails (cap branch step : ℕ) (earlier now : List Request)
      (old middle new : List (Lane S)) : Type 0 where
    pub its_branch : Branch
    pub its_step : Step
    pub method : Method
    pub there : IsStepAt plan branch step its_branch its_step
    pub named : IsMethod (meaning_of schema) its_step.method method
    pub some : 1 ≤ length now
    pub of_step : (request : Request) → Contains now request → IsStepRequest (meaning_of schema) its_step request
    pub fits : length earlier + length now ≤ cap
    pub fails : FailsOnLane seen schema method.rel now middle new
    pub rounds : (instance : List Fact) → LanesHoldPlan seen schema plan old instance
        → IsRoundAt (meaning_of schema) plan instance branch step earlier now

  -- The step's round was asked whole, for whose requests there was room, and this is the least bad number of what it received.
  pub record NumberFails (cap rel column : ℕ) (earlier now : List Request) (old middle new : List (Lane S)) : Type 0 where
    pub branch : ℕ
    pub step : ℕ
    pub its_branch : Branch
    pub its_step : Step
    pub method : Method
    pub there : IsStepAt plan branch step its_branch its_step
    pub named : IsMethod (meaning_of schema) its_step.method method
    pub of_relation : method.rel ≡ rel
    pub fits : length earlier + length now ≤ cap
    pub asked : AsksEach seen schema now middle new
    pub going : NoneStopped new
    pub rounds : (instance : List Fact) → LanesHoldPlan seen schema plan old instance
        → IsRoundAt (meaning_of schema) plan instance branch step earlier now
    pub bad : (instance : List Fact) → LanesHoldPlan seen schema plan old instance
        → ReceiveFirstBad (meaning_of schema) instance now rel column

  -- A round would pass the cap, and was not asked; each round before it was asked whole.
  pub record CapFills (cap total wanted : ℕ) (earlier now : List Request)
      (old middle new : List (Lane S)) : Type 0 where
    pub branch : ℕ
    pub step : ℕ
    pub total_is : total ≡ length earlier
    pub within : total ≤ cap
    pub over : cap < total + wanted
    pub wanted_is : wanted ≡ min (length now) (2 ^ 32 - 1)
    pub unasked : new ≡ middle
    pub going : NoneStopped new
    pub rounds : (instance : List Fact) → LanesHoldPlan seen schema plan old instance
        → IsRoundAt (meaning_of schema) plan instance branch step earlier now

  -- There was no memory in a round, or where none was under way; so each round before it was asked whole.
  pub record MemoryRunsOut (earlier now : List Request) (old : List (Lane S)) : Type 0 where
    pub branch : ℕ
    pub step : ℕ
    pub rounds : (instance : List Fact) → LanesHoldPlan seen schema plan old instance
        → IsRoundAt (meaning_of schema) plan instance branch step earlier now
        ⊎ ((now ≡ []) × AreRoundsBefore (meaning_of schema) plan instance branch step earlier)

  -- why the rounds of a plan stopped
  abbrev pub PlanCause : ℕ → List Request → List Request → List (Lane S) → List (Lane S) → List (Lane S) → RunFault
      → Type 0
  PlanCause cap earlier now old middle new fault.NoMemory = MemoryRunsOut earlier now old
  PlanCause cap earlier now old middle new (fault.CallFailed branch step) = CallFails cap branch step earlier now old
      middle new
  PlanCause cap earlier now old middle new (fault.OverCalls total wanted its) =
      (its ≡ cap) × CapFills cap total wanted earlier now old middle new
  PlanCause cap earlier now old middle new (fault.BadNumber rel column) = NumberFails cap rel column earlier now old
      middle new
  PlanCause cap earlier now old middle new end = ⊥

  -- The rounds of a plan stopped: those before the last one were asked whole, and each request of the last one at
  -- most once.
  pub record PlanHalts (cap : ℕ) (why : RunFault) (old new : List (Lane S)) : Type 0 where
    pub middle : List (Lane S)
    pub earlier : List Request
    pub now : List Request
    pub asks_earlier : AsksEach seen schema earlier old middle
    pub asks_now : AsksSome seen schema now middle new
    pub of_plan : AreOfPlan (meaning_of schema) plan (earlier ++ now)
    pub part : (instance : List Fact) → LanesHoldPlan seen schema plan old instance
        → (rest : List Request) × AreRequests (meaning_of schema) plan instance ((earlier ++ now) ++ rest)
    pub numbers : (instance : List Fact) → LanesHoldPlan seen schema plan old instance
        → ReceiveIntegers (meaning_of schema) instance earlier
    pub cause : PlanCause cap earlier now old middle new why
