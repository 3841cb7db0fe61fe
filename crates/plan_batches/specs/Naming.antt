-- Which plan a fault of a round concerns.
use Rattle.std.specs.Prelude.{◌≡◌, ◌+◌, ◌<◌, ◌^◌, ℕ, List, [], Contains, Some, length, slice_get}
use Rattle.middleware.specs.declared.fault.RunFault.TheVariants as fault
use Rattle.middleware.specs.declared.lane_round.AskFault.TheVariants as ask
use Rattle.request_rounds.specs.declared.rounds.Halt.{Halt}
use Rattle.request_rounds.specs.declared.rounds.Halt.TheVariants as halt
use Rattle.plan_course.specs.declared.turns.Next.{Next}
use Rattle.plan_course.specs.declared.turns.Next.TheVariants as next
use Rattle.plan_course.specs.declared.turns.Pending.{Pending}
use Rattle.plan_batches.specs.declared.fault.BatchFault.{BatchFault}
use Rattle.plan_batches.specs.declared.member.Going.{Going}
use Rattle.plan_batches.specs.declared.round.Noted.{Noted}
use Rattle.plan_batches.specs.declared.round.NotedFault.{NotedFault}
use Rattle.plan_batches.specs.declared.round.NotedFault.TheVariants as noted_fault

-- one of the plans wants the request of this number
abbrev pub WantsNumber : List Going → ℕ → Type 0
WantsNumber goings number = (going : Going) × Contains goings going × Contains going.numbers.items number

-- each request that the plans want has a number below this one
abbrev pub NumbersBelow : ℕ → List Going → Type 0
NumbersBelow most goings = (going : Going) (number : ℕ) → Contains goings going → Contains going.numbers.items number → number < most

-- branch and step can be numbered, or nothing is wanted
abbrev pub CanNameBy : Next → List ℕ → Type 0
CanNameBy (next.Wants pending) numbers = (pending.branch < 2 ^ 32) × (pending.step < 2 ^ 32)
CanNameBy (next.Done course) numbers = numbers ≡ []

abbrev pub CanName : Going → Type 0
CanName going = CanNameBy going.next going.numbers.items

-- the plan of this number is the first that wants the request of a number
pub record IsFirstGoing (goings : List Going) (plan number : ℕ) : Type 0 where
  pub going : Going
  pub at : slice_get goings plan ≡ Some going
  pub among : Contains going.numbers.items number
  pub before : (k : ℕ) (other : Going) → k < plan → slice_get goings k ≡ Some other → Contains other.numbers.items number → ⊥

-- the failed call of the request of a number, by the first plan that wants it and the step that this is at
pub record FailsFirst (goings : List Going) (number : ℕ) (why : BatchFault) : Type 0 where
  pub first : IsFirstGoing goings why.plan number
  pub pending : Pending
  pub wants : first.going.next ≡ next.Wants pending
  pub fault_is : why.fault ≡ fault.CallFailed pending.branch pending.step

-- ---- where the rounds stop

-- one of the plans, which can be numbered, wants the request of this number
pub record HasFirst (goings : List Going) (number : ℕ) : Type 0 where
  pub wanted : WantsNumber goings number
  pub small : number < 2 ^ 32
  pub few : length goings < 2 ^ 32

-- a plan can be named where the rounds stop
abbrev pub CanNameHalt : Halt Noted NotedFault → Type 0
CanNameHalt halt.NoMemory = Unit {0}
CanNameHalt (halt.Refused noted (noted_fault.NotAsked ask.NoMemory)) = Unit {0}
CanNameHalt (halt.Refused noted (noted_fault.NotAsked (ask.CallFailed request))) = HasFirst noted.goings.items (noted.made + request)
    × ((going : Going) → Contains noted.goings.items going → CanName going)
CanNameHalt (halt.Refused noted (noted_fault.BadNumber bad)) = Unit {0}
CanNameHalt (halt.Over noted made wanted) = HasFirst noted.goings.items made

-- Why the plans stop, where their rounds stop for this: the plan is the first that wants the refused request, the one whose step received
-- the bad number, or the first one that would pass the cap.
abbrev pub NamesHalt : ℕ → Halt Noted NotedFault → BatchFault → Type 0
NamesHalt cap halt.NoMemory why = why ≡ record { plan = 0; fault = fault.NoMemory }
NamesHalt cap (halt.Refused noted (noted_fault.NotAsked ask.NoMemory)) why = why ≡ record { plan = 0; fault = fault.NoMemory }
NamesHalt cap (halt.Refused noted (noted_fault.NotAsked (ask.CallFailed request))) why =
    FailsFirst noted.goings.items (noted.made + request) why
NamesHalt cap (halt.Refused noted (noted_fault.BadNumber bad)) why =
    why ≡ record { plan = bad.plan; fault = fault.BadNumber bad.rel bad.column }
NamesHalt cap (halt.Over noted made wanted) why = IsFirstGoing noted.goings.items why.plan made
    × (why.fault ≡ fault.OverCalls made wanted cap)
