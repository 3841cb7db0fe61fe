-- One round of a plan, and how far the plan has come after some rounds.
use Rattle.std.specs.Prelude.{◌≡◌, ◌+◌, ◌^◌, ◌<◌, ◌≤◌, ℕ, List, ◌∷◌, [], Contains, Result, Ok, Err, flat_map, length, slice_get}
use Rattle.meaning.specs.declared.types.Fact.{Fact}
use Rattle.meaning.specs.declared.types.Method.{Method}
use Rattle.meaning.specs.declared.types.Plan.{Plan}
use Rattle.meaning.specs.declared.types.Request.{Request}
use Rattle.access_schema.specs.declared.schema.Schema.{Schema}
use Rattle.access_schema.specs.Meaning.{meaning_of}
use Rattle.source_trait.specs.Asking.{RowList, Seen}
use Rattle.source_trait.specs.declared.lanes.Lane.{Lane}
use Rattle.source_trait.specs.declared.source.CallFault.TheVariants as call
use Rattle.middleware.specs.LaneAsking.{AnswersFrom, AsksWanted}
use Rattle.middleware.specs.Branches.{IsAskable}
use Rattle.middleware.specs.LaneRounds.{AsksEach, NoneStopped}
use Rattle.middleware.specs.LaneBranches.{OnEach, LanesHoldPlan}
use Rattle.middleware.specs.Rounds.{requests_of}
use Rattle.middleware.specs.declared.fault.RunFault.{RunFault}
use Rattle.middleware.specs.declared.fault.RunFault.TheVariants as fault
use Rattle.bad_numbers.specs.Numbers.{HaveIntegers, IsBadColumn, ReceiveIntegers}
use Rattle.request_rounds.specs.declared.rounds.Turned.{Turned}
use Rattle.request_rounds.specs.declared.rounds.Reached.{Reached}
use Rattle.request_rounds.specs.declared.rounds.Halt.{Halt}
use Rattle.request_rounds.specs.declared.rounds.Halt.TheVariants as halt
use Rattle.shared_rounds.specs.SharedRounds.{Anew, AreRounds, IsTurn, turns_of}
use Rattle.plan_course.specs.Courses.{AreReadyBranches, IsAt, Knows}
use Rattle.plan_course.specs.Turns.{AreOfTurn, IsPending}
use Rattle.plan_course.specs.declared.course.Course.{Course}
use Rattle.plan_course.specs.declared.turns.Pending.{Pending}
use Rattle.plan_execution.specs.PlanRounds.{AreOfPlan}
use Rattle.plan_execution.specs.declared.asking.StepFault.{StepFault}
use Rattle.plan_execution.specs.declared.asking.StepFault.TheVariants as stop

-- the requests of a step
abbrev pub asks_in : Pending → List Request
asks_in pending = requests_of pending.method.rel pending.method.inputs pending.wanted.requests

-- the rows of all answers
abbrev pub rows_in : List RowList → RowList
rows_in answers = flat_map (λ rows. rows) answers

-- The requests of a method were asked of the lanes, and on success all rows that came were tested: each has integers at the integer columns
-- of the relation, or the column is the least at which one of them has another value.
abbrev pub AsksTested : {S : Type 0} → (S → Seen) → Schema → Method → RowList → Result (List RowList) StepFault → List (Lane S)
    → List (Lane S) → Type 0
AsksTested seen schema method requests (Ok answers) old new =
    AsksWanted seen schema method requests (Ok answers) old new × HaveIntegers (meaning_of schema) method.rel (rows_in answers)
AsksTested seen schema method requests (Err (stop.BadNumber column)) old new =
    (answers : List RowList) × AsksWanted seen schema method requests (Ok answers) old new
    × IsBadColumn (meaning_of schema) method.rel (rows_in answers) column
AsksTested seen schema method requests (Err stop.CallFailed) old new = AsksWanted seen schema method requests (Err call.Failed) old new
AsksTested seen schema method requests (Err stop.NoMemory) old new = AsksWanted seen schema method requests (Err call.NoMemory) old new

-- branch and step of the one that was refused can be numbered
abbrev pub CanName : Halt Pending StepFault → Type 0
CanName (halt.Refused pending why) = (pending.branch < 2 ^ 32) × (pending.step < 2 ^ 32)
CanName other = Unit {0}

-- why a plan stops, where its rounds stop for this
abbrev pub fault_of : ℕ → Halt Pending StepFault → RunFault
fault_of cap halt.NoMemory = fault.NoMemory
fault_of cap (halt.Refused pending stop.NoMemory) = fault.NoMemory
fault_of cap (halt.Refused pending stop.CallFailed) = fault.CallFailed pending.branch pending.step
fault_of cap (halt.Refused pending (stop.BadNumber column)) = fault.BadNumber pending.method.rel column
fault_of cap (halt.Over pending made wanted) = fault.OverCalls made wanted cap

-- the course is before a step
abbrev pub HasStep : Plan → Course → Type 0
HasStep plan course = (n : ℕ) × IsAt plan n course × (n < length (turns_of plan))

-- what a step of the plan asks
abbrev pub WasAsked : Plan → Pending → Type 0
WasAsked plan pending = (schema : Schema) × (course : Course) × IsPending schema plan course pending

-- What the answers to the requests of a step make of the course.
pub record Takes (plan : Plan) (pending : Pending) (answers : List RowList) (next : Course) : Type 0 where
  pub at : (schema : Schema) (course : Course) (n : ℕ) → IsPending schema plan course pending → IsAt plan n course
      → IsAt plan (n + 1) next
  pub knows : (schema : Schema) (course : Course) (facts : List Fact) → IsPending schema plan course pending
      → AreReadyBranches (meaning_of schema) plan → Knows (meaning_of schema) facts plan course
      → AnswersFrom facts pending.method pending.wanted.requests answers → Knows (meaning_of schema) facts plan next

-- what a step asks may be asked of the lanes
pub record MayAsk (schema : Schema) {S : Type 0} (seen : S → Seen) (pending : Pending) (lanes : List (Lane S)) : Type 0 where
  pub some : (0 < length lanes) × (length lanes ≤ 8)
  pub going : NoneStopped lanes
  pub askable : OnEach lanes (λ kinds. IsAskable seen schema kinds pending.method)
  pub few : length pending.wanted.requests ≤ 1000000
  pub values : (values : List (List ℕ)) → Contains pending.wanted.requests values → length values ≡ length pending.method.inputs

module _ (schema : Schema) (plan : Plan) where
  -- What the course's next step asks, which is the plan's turn there.
  pub record Turns (course : Course) (turned : Turned Pending) : Type 0 where
    pub is : IsPending schema plan course turned.what
    pub turn : (n : ℕ) (facts : List Fact) → IsAt plan n course → Knows (meaning_of schema) facts plan course
        → IsTurn (meaning_of schema) facts n plan (asks_in turned.what)
    pub of_turn : (n : ℕ) → IsAt plan n course
        → AreOfTurn (meaning_of schema) (slice_get (turns_of plan) n) (asks_in turned.what)
    pub count : turned.wanted ≡ length turned.what.wanted.requests

  module _ {S : Type 0} (seen : S → Seen) where
    -- n rounds were asked whole, and this is how far the plan has come.
    pub record HasCome (cap n : ℕ) (reached : Reached Course) (old new : List (Lane S)) : Type 0 where
      pub at : IsAt plan n reached.progress
      pub list : List Request
      pub asks : AsksEach seen schema list old new
      pub count : reached.made ≡ length list
      pub within : reached.made ≤ cap
      pub of_plan : AreOfPlan (meaning_of schema) plan list
      pub knows : (instance : List Fact) → LanesHoldPlan seen schema plan old instance
          → Knows (meaning_of schema) instance plan reached.progress
      pub are : (instance : List Fact) → LanesHoldPlan seen schema plan old instance
          → AreRounds (meaning_of schema) instance (plan ∷ []) Anew n list
      pub numbers : (instance : List Fact) → LanesHoldPlan seen schema plan old instance
          → ReceiveIntegers (meaning_of schema) instance list
