-- What an execution does on its lanes: the attaches, and behind them the rounds.
use Rattle.std.specs.Prelude.{◌≡◌, ◌⊎◌, ℕ, List, map, Result, Ok, Err}
use Rattle.meaning.specs.declared.types.Plan.{Plan}
use Rattle.access_schema.specs.declared.schema.Schema.{Schema}
use Rattle.source_trait.specs.Asking.{Seen}
use Rattle.source_trait.specs.declared.lanes.Lane.{Lane}
use Rattle.middleware.specs.PlanSources.{IsAccessed}
use Rattle.middleware.specs.Needs.{AttachesNeeded}
use Rattle.middleware.specs.LaneRounds.{started, NoneStopped}
use Rattle.middleware.specs.declared.fault.Run.{Run}
use Rattle.middleware.specs.declared.fault.RunFault.{RunFault}
use Rattle.middleware.specs.declared.fault.RunFault.TheVariants as fault
use Rattle.plan_execution.specs.PlanRounds.{LanesDone, PlanHalts}

-- for an execution each lane needs the relations of the plan
abbrev pub needed_by : Schema → Plan → ℕ → ℕ → Type 0
needed_by schema plan place rel = IsAccessed schema plan rel

module _ {S : Type 0} (seen : S → Seen) (schema : Schema) (plan : Plan) where
  -- What the rounds of a plan did, begun with no lane stopped, and why they stopped. Where memory was wanted, nothing
  -- may have been begun.
  abbrev pub AsksRounds : ℕ → List (Lane S) → List (Lane S) → Result Run RunFault → Type 0
  AsksRounds cap old new (Ok run) = LanesDone seen schema plan run.rows run.made (map started old) new
  AsksRounds cap old new (Err fault.NoMemory) = (new ≡ old) ⊎ PlanHalts seen schema plan cap fault.NoMemory
      (map started old) new
  AsksRounds cap old new (Err why) = PlanHalts seen schema plan cap why (map started old) new

  -- The relations of the plan were attached on each lane, and then its rounds were asked; or it stopped at the
  -- attaches.
  pub data AttachesAndAsks (cap : ℕ) (old new : List (Lane S)) : Result Run RunFault → Type 0 where
    not_attached : (why : RunFault) → AttachesNeeded seen schema (needed_by schema plan) old new (Err why)
        → AttachesAndAsks cap old new (Err why)
    attached : (middle : List (Lane S)) (result : Result Run RunFault)
        → AttachesNeeded seen schema (needed_by schema plan) old middle (Ok tt)
        → AsksRounds cap middle new result → AttachesAndAsks cap old new result

-- after whole rounds no lane is stopped
abbrev pub LanesGoOn : {S : Type 0} → Result Run RunFault → List (Lane S) → Type 0
LanesGoOn (Ok run) lanes = NoneStopped lanes
LanesGoOn (Err end) lanes = Unit {0}
