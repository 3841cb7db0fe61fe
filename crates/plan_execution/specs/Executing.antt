-- What an execution of a plan promises, in one record.
use Rattle.std.specs.Prelude.{◌≡◌, ◌↔◌, ◌≤◌, ℕ, List, length, Contains, IfOk, Result}
use Rattle.std.specs.List.Sorted.{IsStrictlySortedBy}
use Rattle.meaning.specs.declared.types.Fact.{Fact}
use Rattle.meaning.specs.declared.types.Plan.{Plan}
use Rattle.meaning.specs.declared.types.Request.{Request}
use Rattle.meaning.specs.Rows.{IsRow}
use Rattle.meaning.specs.Requests.{AreRequests}
use Rattle.access_schema.specs.declared.schema.Schema.{Schema}
use Rattle.access_schema.specs.Meaning.{meaning_of}
use Rattle.source_trait.specs.Asking.{Seen}
use Rattle.source_trait.specs.Lanes.{LanesStay}
use Rattle.source_trait.specs.declared.lanes.Lane.{Lane}
use Rattle.row_text.specs.RowText.{row_cmp}
use Rattle.middleware.specs.PlanSources.{IsAccessed}
use Rattle.middleware.specs.LaneBranches.{LanesHoldPlan}
use Rattle.plan_execution.specs.Running.{AsksRounds, AttachesAndAsks, LanesGoOn}
use Rattle.middleware.specs.declared.fault.Run.{Run}
use Rattle.middleware.specs.declared.fault.RunFault.{RunFault}

-- What running a plan on lanes gives, with at most `cap` requests, where this is what it does with the lanes.
pub record RunsPlan {S : Type 0} (seen : S → Seen) (schema : Schema) (plan : Plan) (cap : ℕ)
    (Does : Result Run RunFault → Type 0)
    (old new : List (Lane S)) (result : Result Run RunFault) : Type 0 where
  -- the rows are the plan's on whatever instance the sources of each lane hold, ascending and each once
  pub rows : IfOk result (λ run. (instance : List Fact) → LanesHoldPlan seen schema plan new instance
      → (row : List (List ℕ)) → Contains run.rows row ↔ IsRow (meaning_of schema) plan instance row)
  pub ascends : IfOk result (λ run. IsStrictlySortedBy row_cmp run.rows)
  -- the requests are the plan's on it
  pub made : IfOk result (λ run. (instance : List Fact) → LanesHoldPlan seen schema plan new instance
      → (requests : List Request) × AreRequests (meaning_of schema) plan instance requests
      × (run.made ≡ length requests))
  pub within : IfOk result (λ run. run.made ≤ cap)
  -- what was attached and asked, and why it stopped
  pub does : Does result
  -- lanes and kinds keep their order; a plan that accesses nothing leaves them as they were
  pub stay : LanesStay seen old new
  pub idle : ((rel : ℕ) → IsAccessed schema plan rel → ⊥) → new ≡ old
  -- after whole rounds no lane is stopped
  pub going : (rel : ℕ) → IsAccessed schema plan rel → LanesGoOn result new

-- An execution attaches the relations of the plan, and asks its rounds.
abbrev pub Executes : {S : Type 0} → (S → Seen) → Schema → Plan → ℕ → List (Lane S) → List (Lane S)
    → Result Run RunFault → Type 0
Executes seen schema plan cap old new result =
    RunsPlan seen schema plan cap (AttachesAndAsks seen schema plan cap old new) old new result

-- An execution on lanes that have attached the relations of the plan asks its rounds.
abbrev pub ExecutesAttached : {S : Type 0} → (S → Seen) → Schema → Plan → ℕ → List (Lane S) → List (Lane S)
    → Result Run RunFault → Type 0
ExecutesAttached seen schema plan cap old new result =
    RunsPlan seen schema plan cap (AsksRounds seen schema plan cap old new) old new result
