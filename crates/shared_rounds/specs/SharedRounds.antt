-- Rounds that plans share: round n takes the nth step of every plan that has one.
use Rattle.std.specs.Prelude.{◌≡◌, ◌+◌, ◌<◌, ◌&&◌, ◌||◌, ◌++◌, ◌∷◌, [], ℕ, zero, suc, List, Bool, false, Contains, Option, None, Some, nat_eq, slice_get, if◌then◌else◌, flat_map, length, take}
use Rattle.std.specs.List.{AllZip}
use Rattle.std.specs.Cmp.Lexicographic.{pointwise}
use Rattle.meaning.specs.declared.types.SchemaParts.{SchemaParts}
use Rattle.meaning.specs.declared.types.Fact.{Fact}
use Rattle.meaning.specs.declared.types.Step.{Step}
use Rattle.meaning.specs.declared.types.Branch.{Branch}
use Rattle.meaning.specs.declared.types.Plan.{Plan}
use Rattle.meaning.specs.declared.types.Request.{Request}
use Rattle.meaning.specs.Requests.{IsRound, AreRequests}

-- ---- the steps of a plan, counted through its branches

-- a step of a plan: the number of its branch, its number there, the steps before it there, and itself
pub record Turn : Type 0 where
  pub branch : ℕ
  pub step : ℕ
  pub before : List Step
  pub its : Step

-- the steps of a branch, behind the ones before them
abbrev pub turns_from : ℕ → ℕ → List Step → List Step → List Turn
turns_from branch n before [] = []
turns_from branch n before (step ∷ steps) =
    record { branch = branch; step = n; before = before; its = step } ∷ turns_from branch (n + 1) (before ++ step ∷ []) steps

-- the steps of branches, of which the first has this number
abbrev pub turns_in : ℕ → List Branch → List Turn
turns_in n [] = []
turns_in n (branch ∷ branches) = turns_from n 0 [] branch.steps ++ turns_in (n + 1) branches

-- the steps of a plan in order
abbrev pub turns_of : Plan → List Turn
turns_of plan = turns_in 0 plan.branches

-- how many steps the branches have
abbrev pub steps_in : List Branch → ℕ
steps_in [] = 0
steps_in (branch ∷ branches) = length branch.steps + steps_in branches

-- the nth step of a plan: its branch and its place there, the steps before it, and n counted through the branches
pub record IsNth (plan : Plan) (n : ℕ) (turn : Turn) : Type 0 where
  pub branch : Branch
  pub of_plan : slice_get plan.branches turn.branch ≡ Some branch
  pub of_branch : slice_get branch.steps turn.step ≡ Some turn.its
  pub before_are : turn.before ≡ take turn.step branch.steps
  pub number : n ≡ steps_in (take turn.branch plan.branches) + turn.step

-- on an instance: the requests of a step, or none where there is no step
abbrev pub AreAskedAt : SchemaParts → List Fact → Option Turn → List Request → Type 0
AreAskedAt schema facts None requests = requests ≡ []
AreAskedAt schema facts (Some turn) requests = IsRound schema facts turn.before turn.its requests

-- the requests of a plan's nth step
abbrev pub IsTurn : SchemaParts → List Fact → ℕ → Plan → List Request → Type 0
IsTurn schema facts n plan requests = AreAskedAt schema facts (slice_get (turns_of plan) n) requests

-- ---- rounds

-- whether a request that was asked before is asked again
pub data Sharing : Type 0 where
  Anew Once : Sharing

-- one request: relation, positions and values; the method that asks is no part of it
abbrev pub same_request : Request → Request → Bool
same_request first second = nat_eq first.rel second.rel && (pointwise nat_eq first.positions second.positions
    && pointwise (pointwise nat_eq) first.values second.values)

abbrev pub is_asked : List Request → Request → Bool
is_asked [] request = false
is_asked (first ∷ rest) request = same_request first request || is_asked rest request

-- which of the requests are asked behind those that were asked before: all of them, or each that was not asked, once
abbrev pub to_ask : Sharing → List Request → List Request → List Request
to_ask Anew asked requests = requests
to_ask Once asked [] = []
to_ask Once asked (request ∷ requests) =
    if is_asked asked request then to_ask Once asked requests else request ∷ to_ask Once (asked ++ request ∷ []) requests

-- The turns of a round: what the nth step of each plan wants, plan by plan.
abbrev pub AreTurns : SchemaParts → List Fact → List Plan → ℕ → List (List Request) → Type 0
AreTurns schema facts plans n turns = AllZip (IsTurn schema facts n) plans turns

-- the requests of a round, plan by plan
abbrev pub wanted_in : List (List Request) → List Request
wanted_in turns = flat_map (λ turn. turn) turns

-- The requests of the first n rounds, in the order in which they are asked.
abbrev pub AreRounds : SchemaParts → List Fact → List Plan → Sharing → ℕ → List Request → Type 0
AreRounds schema facts plans sharing zero requests = requests ≡ []
AreRounds schema facts plans sharing (suc n) requests =
    (asked : List Request) × (turns : List (List Request)) × AreRounds schema facts plans sharing n asked × AreTurns schema facts plans n turns
    × (requests ≡ asked ++ to_ask sharing asked (wanted_in turns))

-- ---- what the laws say of them

-- one of the plans wants the request in one of the first n rounds
pub record IsWanted (schema : SchemaParts) (facts : List Fact) (plans : List Plan) (n : ℕ) (request : Request) : Type 0 where
  pub plan : Plan
  pub round : ℕ
  pub turn : List Request
  pub of_plans : Contains plans plan
  pub early : round < n
  pub is_turn : IsTurn schema facts round plan turn
  pub among : Contains turn request

-- one of the plans has the request
pub record IsOfPlans (schema : SchemaParts) (facts : List Fact) (plans : List Plan) (request : Request) : Type 0 where
  pub plan : Plan
  pub requests : List Request
  pub of_plans : Contains plans plan
  pub are : AreRequests schema plan facts requests
  pub among : Contains requests request
