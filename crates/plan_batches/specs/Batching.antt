-- What executing several plans together does and gives: in rounds that they share, each request once.
use Rattle.std.specs.Prelude.{◌≡◌, ◌↔◌, ◌⊎◌, ◌+◌, ◌-◌, ◌^◌, ◌<◌, ◌≤◌, ℕ, min, max, List, [], ◌∷◌, Contains, Some, Result, Ok, Err, IfOk, OnOk, length, map, slice_get}
use Rattle.std.specs.List.{AllZip}
use Rattle.std.specs.List.Sorted.{IsStrictlySortedBy}
use Rattle.meaning.specs.declared.types.Fact.{Fact}
use Rattle.meaning.specs.declared.types.Plan.{Plan}
use Rattle.meaning.specs.declared.types.Request.{Request}
use Rattle.meaning.specs.Rows.{IsRow}
use Rattle.meaning.specs.Requests.{AreRequests}
use Rattle.meaning.specs.Search.{AreDistinct}
use Rattle.access_schema.specs.declared.schema.Schema.{Schema}
use Rattle.access_schema.specs.Meaning.{meaning_of}
use Rattle.source_trait.specs.Asking.{Seen}
use Rattle.source_trait.specs.Lanes.{LanesStay}
use Rattle.source_trait.specs.declared.lanes.Lane.{Lane}
use Rattle.source_trait.specs.declared.work.Ask.{Ask}
use Rattle.row_text.specs.RowText.{row_cmp}
use Rattle.middleware.specs.PlanSources.{IsAccessed}
use Rattle.middleware.specs.Held.{HoldNeeded}
use Rattle.middleware.specs.Asked.{IsStepRequest}
use Rattle.middleware.specs.Needs.{AttachesNeeded}
use Rattle.middleware.specs.LaneRounds.{started, requests_in, HaveTheirKinds, AsksEach, AsksSome, AskCause, NoneStopped}
use Rattle.middleware.specs.LaneBranches.{OnEach, LanesHoldPlan}
use Rattle.bad_numbers.specs.Numbers.{ReceiveFirstBad, ReceiveIntegers}
use Rattle.middleware.specs.declared.lane_round.AskFault.TheVariants as ask
use Rattle.middleware.specs.declared.fault.Run.{Run}
use Rattle.middleware.specs.declared.fault.RunFault.{RunFault}
use Rattle.middleware.specs.declared.fault.RunFault.TheVariants as fault
use Rattle.shared_rounds.specs.SharedRounds.{Turn, turns_of, Once, to_ask, AreTurns, wanted_in, AreRounds}
use Rattle.plan_batches.specs.declared.fault.BatchFault.{BatchFault}

-- ---- plans and their numbers

-- some of the plans accesses the relation
abbrev pub NeedsOf : Schema → List Plan → ℕ → Type 0
NeedsOf schema plans rel = (plan : Plan) × Contains plans plan × IsAccessed schema plan rel

-- for plans that are executed together each lane needs the relations of all of them
abbrev pub needed_by_all : Schema → List Plan → ℕ → ℕ → Type 0
needed_by_all schema plans place rel = NeedsOf schema plans rel

-- how many steps the longest of the plans has
abbrev pub most_steps : List Plan → ℕ
most_steps [] = 0
most_steps (plan ∷ plans) = max (length (turns_of plan)) (most_steps plans)

-- the plan of this number is the first that accesses the relation
pub record IsFirstOn (schema : Schema) (plans : List Plan) (number rel : ℕ) : Type 0 where
  pub plan : Plan
  pub at : slice_get plans number ≡ Some plan
  pub accesses : IsAccessed schema plan rel
  pub before : (k : ℕ) (other : Plan) → k < number → slice_get plans k ≡ Some other → IsAccessed schema other rel → ⊥

-- the turn of this number is the first that has the request
pub record IsFirstWith (turns : List (List Request)) (number : ℕ) (request : Request) : Type 0 where
  pub turn : List Request
  pub at : slice_get turns number ≡ Some turn
  pub among : Contains turn request
  pub before : (k : ℕ) (other : List Request) → k < number → slice_get turns k ≡ Some other → Contains other request → ⊥

-- the plan of a number has its nth step in the branch of this number, at this place there
pub record IsNumbered (plans : List Plan) (number n branch step : ℕ) : Type 0 where
  pub plan : Plan
  pub turn : Turn
  pub at : slice_get plans number ≡ Some plan
  pub its : slice_get (turns_of plan) n ≡ Some turn
  pub branch_is : branch ≡ turn.branch
  pub step_is : step ≡ turn.step

-- which plan a fault of the attaches concerns
abbrev pub Concerns : Schema → List Plan → ℕ → RunFault → Type 0
Concerns schema plans number fault.NoMemory = number ≡ 0
Concerns schema plans number (fault.NoSource rel) = IsFirstOn schema plans number rel
Concerns schema plans number (fault.UnknownKind rel) = IsFirstOn schema plans number rel
Concerns schema plans number (fault.Attach rel why) = IsFirstOn schema plans number rel
Concerns schema plans number why = ⊥

-- each request is one of a step of one of the plans
abbrev pub AreOfPlans : Schema → List Plan → List Request → Type 0
AreOfPlans schema plans requests = (request : Request) → Contains requests request
    → (plan : Plan) × (turn : Turn) × Contains plans plan × Contains (turns_of plan) turn × IsStepRequest (meaning_of schema) turn.its request

module _ {S : Type 0} (seen : S → Seen) (schema : Schema) (plans : List Plan) where
  -- each lane holds the relations of all plans with just the facts of the instance
  abbrev pub LanesHoldAll : List (Lane S) → List Fact → Type 0
  LanesHoldAll lanes instance = OnEach lanes (λ kinds. HoldNeeded seen schema (NeedsOf schema plans) kinds instance)

  -- ---- rounds

  -- n rounds were asked whole, each request once by one of the lanes
  pub record RoundsAsked (n : ℕ) (list : List Request) (old new : List (Lane S)) : Type 0 where
    pub asks : AsksEach seen schema list old new
    pub of_plans : AreOfPlans schema plans list
    pub are : (instance : List Fact) → LanesHoldAll old instance → AreRounds (meaning_of schema) instance plans Once n list
    pub numbers : (instance : List Fact) → LanesHoldAll old instance → ReceiveIntegers (meaning_of schema) instance list

  -- A call of the round failed, which there was room for: the first request of the round that was refused, and the first plan that has it.
  pub record CallFails (cap n number branch step : ℕ) (earlier : List Request) (turns : List (List Request)) (middle new : List (Lane S)) : Type 0
    where
      pub asks : List Ask
      pub are : requests_in asks ≡ to_ask Once earlier (wanted_in turns)
      pub kinds : HaveTheirKinds schema asks
      pub fits : length earlier + length asks ≤ cap
      pub k : ℕ
      pub request : Request
      pub at : slice_get (to_ask Once earlier (wanted_in turns)) k ≡ Some request
      pub cause : AskCause seen schema asks (ask.CallFailed k) middle new
      pub first : IsFirstWith turns number request
      pub numbered : IsNumbered plans number n branch step

  -- The round was asked whole, which there was room for. The plan is the first whose step received a bad number in it, and this is the least
  -- one of what that step received.
  pub record NumberFails (cap number rel column : ℕ) (earlier : List Request) (turns : List (List Request)) (old middle new : List (Lane S)) : Type 0
    where
      pub turn : List Request
      pub at : slice_get turns number ≡ Some turn
      pub fits : length earlier + length (to_ask Once earlier (wanted_in turns)) ≤ cap
      pub asked : AsksEach seen schema (to_ask Once earlier (wanted_in turns)) middle new
      pub going : NoneStopped new
      pub bad : (instance : List Fact) → LanesHoldAll old instance → ReceiveFirstBad (meaning_of schema) instance turn rel column
      pub before : (instance : List Fact) → LanesHoldAll old instance → (k : ℕ) (other : List Request) → k < number
          → slice_get turns k ≡ Some other → ReceiveIntegers (meaning_of schema) instance other

  -- The round would pass the cap, and was not asked. The plan is the first that has the first request of the round.
  pub record CapFills (cap number made wanted its : ℕ) (earlier : List Request) (turns : List (List Request)) (middle new : List (Lane S)) : Type 0
    where
      pub cap_is : its ≡ cap
      pub made_is : made ≡ length earlier
      pub within : made ≤ cap
      pub over : cap < made + wanted
      pub wanted_is : wanted ≡ min (length (to_ask Once earlier (wanted_in turns))) (2 ^ 32 - 1)
      pub request : Request
      pub at : slice_get (to_ask Once earlier (wanted_in turns)) 0 ≡ Some request
      pub first : IsFirstWith turns number request
      pub unasked : new ≡ middle
      pub going : NoneStopped new

  -- why the rounds stopped in the nth
  abbrev pub HaltsFor : ℕ → ℕ → List Request → List (List Request) → List (Lane S) → List (Lane S) → List (Lane S) → ℕ → RunFault → Type 0
  HaltsFor cap n earlier turns old middle new number fault.NoMemory = number ≡ 0
  HaltsFor cap n earlier turns old middle new number (fault.CallFailed branch step) =
      CallFails cap n number branch step earlier turns middle new
  HaltsFor cap n earlier turns old middle new number (fault.OverCalls made wanted its) =
      CapFills cap number made wanted its earlier turns middle new
  HaltsFor cap n earlier turns old middle new number (fault.BadNumber rel column) =
      NumberFails cap number rel column earlier turns old middle new
  HaltsFor cap n earlier turns old middle new number why = ⊥

  -- The rounds stopped: n of them were asked whole, and each request of the next one at most once. Where there was no memory, no further
  -- round may have been begun.
  pub record RoundsHalt (cap : ℕ) (why : BatchFault) (old new : List (Lane S)) : Type 0 where
    pub n : ℕ
    pub earlier : List Request
    pub turns : List (List Request)
    pub middle : List (Lane S)
    pub whole : RoundsAsked n earlier old middle
    pub part : AsksSome seen schema (to_ask Once earlier (wanted_in turns)) middle new
    pub of_plans : AreOfPlans schema plans (wanted_in turns)
    pub are : (turns ≡ []) ⊎ ((instance : List Fact) → LanesHoldAll old instance → AreTurns (meaning_of schema) instance plans n turns)
    pub cause : HaltsFor cap n earlier turns old middle new why.plan why.fault

  -- what the rounds of the plans did
  abbrev pub RoundsDone : ℕ → List (Lane S) → List (Lane S) → Result (List Run) BatchFault → Type 0
  RoundsDone cap old new (Ok runs) = (list : List Request) × RoundsAsked (most_steps plans) list old new × (length list ≤ cap)
  RoundsDone cap old new (Err why) = RoundsHalt cap why old new

  -- ---- all of it

  -- how many requests a plan's run counts: each that the plan wants, once
  abbrev pub IsMade : List Request → ℕ → Type 0
  IsMade requests made = (distinct : List Request) × AreDistinct distinct × ((r : Request) → Contains distinct r ↔ Contains requests r)
      × (made ≡ length distinct)

  -- The run of one of the plans, on whatever instance the lanes hold at the plan's own relations.
  pub record IsRunOf (lanes : List (Lane S)) (plan : Plan) (run : Run) : Type 0 where
    pub rows : (instance : List Fact) → LanesHoldPlan seen schema plan lanes instance
        → (row : List (List ℕ)) → Contains run.rows row ↔ IsRow (meaning_of schema) plan instance row
    pub ascends : IsStrictlySortedBy row_cmp run.rows
    pub made : (instance : List Fact) → LanesHoldPlan seen schema plan lanes instance
        → (requests : List Request) × AreRequests (meaning_of schema) plan instance requests × IsMade requests run.made

  -- The relations of all plans were attached on each lane, and then the rounds were asked; or it stopped at the attaches.
  pub data AttachesAndAsksAll (cap : ℕ) (old new : List (Lane S)) : Result (List Run) BatchFault → Type 0 where
    not_attached : (why : BatchFault) → AttachesNeeded seen schema (needed_by_all schema plans) old new (Err why.fault)
        → Concerns schema plans why.plan why.fault → AttachesAndAsksAll cap old new (Err why)
    attached : (middle : List (Lane S)) (result : Result (List Run) BatchFault)
        → AttachesNeeded seen schema (needed_by_all schema plans) old middle (Ok tt)
        → RoundsDone cap (map started middle) new result → AttachesAndAsksAll cap old new result

  -- What executing the plans together on lanes gives, with at most `cap` requests.
  pub record ExecutesAll (cap : ℕ) (old new : List (Lane S)) (result : Result (List Run) BatchFault) : Type 0 where
    -- a run for each plan, in order
    pub runs : IfOk result (λ runs. AllZip (IsRunOf new) plans runs)
    -- what was attached and asked, and why it stopped
    pub does : AttachesAndAsksAll cap old new result
    -- lanes and kinds keep their order; plans that access nothing leave them as they were
    pub stay : LanesStay seen old new
    pub idle : ((rel : ℕ) → NeedsOf schema plans rel → ⊥) → new ≡ old
    -- after whole rounds no lane is stopped
    pub going : (rel : ℕ) → NeedsOf schema plans rel → OnOk result (NoneStopped new)
