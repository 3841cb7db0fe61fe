-- What a visit of a set shows.
use Rattle.std.specs.Prelude.{◌≡◌, ◌<◌, ◌≤◌, ◌+◌, ℕ, List, [], ◌++◌, Contains, Bool, length, map}
use Rattle.std.specs.List.{AllZip}
use Rattle.meaning.specs.declared.types.Trigger.{Trigger}
use Rattle.meaning.specs.declared.types.Firing.TheVariants.{Base, Copy}
use Rattle.meaning.specs.Triggers.{IsFiringRun}
use Rattle.meaning.specs.Runs.{copy_state}
use Rattle.meaning.specs.Extract.{Exposure, IsExposing, exposed_facts, exposures_cost}
use Rattle.accessible_copy.specs.Proving.{Proving, IsProofOf, log_of}
use Rattle.accessible_copy.specs.Rounds.{exposure_of}
use Rattle.least_search.specs.declared.space.Move.{Move}
use Rattle.least_search.specs.declared.space.Visit.{Visit}
use Rattle.least_search.specs.declared.space.End.{End}
use Rattle.least_search.specs.declared.space.End.TheVariants as end
use Rattle.least_search.specs.Walks.{walk_cost}
use Rattle.least_search.specs.Ends.{GoesOn}
use Rattle.exposure_search.specs.Making.{IsServed, IsExposedBy}
use Rattle.exposure_search.specs.Exploring.{Exploring, CanExpose, GainsAt, HasGoalAt, HasMatchAt, HasTry, HasRunBeyond}

-- What the end of a visit says of the set to which the path leads, after so many copy firings. Where the units are spent, one more is due.
pub record IsVisitEnd (space : Exploring) (path : List Move) (set : List Bool) (ended : End) (fired : ℕ) : Type 0 where
  pub goal : ended ≡ end.Goal → HasMatchAt space set
  pub none : ended ≡ end.NoGoal → HasGoalAt space set → ⊥
  pub long : ended ≡ end.FiringsSpent → HasRunBeyond space
  pub due : ended ≡ end.UnitsSpent → HasTry space path (fired + 1)
  pub run : HasTry space path fired

-- The moves are possible at the set, and where the search goes on, one serves for each that is, gains something there, and costs less
-- than the limit.
pub record AreMovesAt (space : Exploring) (set : List Bool) (ended : End) (below : ℕ) (moves : List Move) : Type 0 where
  pub possible : (move : Move) → Contains moves move → CanExpose space set move
  pub complete : GoesOn ended → (move : Move) → CanExpose space set move → GainsAt space set move →
      move.cost < below → IsServed moves move

-- What a visit shows that may make so many copy firings: how it ended, that it made no more, and all of them where it ended because these
-- were spent, and the moves.
pub record IsVisit (space : Exploring) (path : List Move) (set : List Bool) (room below : ℕ) (visit : Visit) : Type 0 where
  pub ended : IsVisitEnd space path set visit.end visit.fired
  pub few : visit.fired ≤ room
  pub spent : visit.end ≡ end.UnitsSpent → visit.fired ≡ room
  pub moves : AreMovesAt space set visit.end below visit.moves.items

-- The proof has the base firings of the space, then the exposures of the path, at its cost, and then copy firings, and no more
-- firings than the budget.
pub record IsReached (space : Exploring) (path : List Move) (proof : Proving) : Type 0 where
  pub run : IsProofOf space.schema proof
  pub constants : proof.constants ≡ space.constants
  pub start : proof.start ≡ space.start
  pub few : length proof.entries ≤ space.budget
  pub made : List Exposure
  pub copy : List Trigger
  pub log : log_of proof ≡ map Base space.log ++ map exposure_of proof.exposed ++ map Copy copy
  pub shown : AllZip (IsExposedBy space.schema) proof.exposed made
  pub exposing : IsExposing space.schema space.constants space.base.facts [] made
  pub cost : exposures_cost made ≡ walk_cost path
  pub copies : IsFiringRun space.schema.rules (record { facts = exposed_facts made; next = space.base.next }) copy (copy_state proof.end)
