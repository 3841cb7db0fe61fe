-- Proofs without the exposures on which a match does not rest.
use Rattle.std.specs.Prelude.{◌≡◌, ◌≤◌, ℕ, Bool, true, false, List, [], ◌∷◌, Contains, map, slice_get, Some}
use Rattle.std.specs.List.{AllZip}
use Rattle.meaning.specs.declared.types.SchemaParts.{SchemaParts}
use Rattle.meaning.specs.declared.types.Query.{Query}
use Rattle.meaning.specs.declared.types.Branch.{Branch}
use Rattle.meaning.specs.declared.types.Trigger.{Trigger}
use Rattle.meaning.specs.declared.types.Val.{Val}
use Rattle.meaning.specs.Costs.{IsCost}
use Rattle.meaning.specs.Triggers.{State, LabelsBelow, IsFiringRun, ground}
use Rattle.meaning.specs.Extract.{Exposure, exposed_facts, exposures_cost, IsExposing, branch_of}
use Rattle.homomorphism.specs.Bindings.{at}
use Rattle.accessible_copy.specs.declared.entry.Exposed.{Exposed}
use Rattle.accessible_copy.specs.Proving.{Proving}
use Rattle.accessible_copy.specs.Goals.{IsHeadMatch}
use Rattle.plan_extract.specs.Resting.{RestsOnFact, RestsOn}

-- The exposure is of that fact, by the method with that number.
abbrev pub IsShown : SchemaParts → Exposed → Exposure → Type 0
IsShown schema exposed exposure = (slice_get schema.methods exposed.method ≡ Some exposure.method) × (exposed.fact ≡ exposure.fact)

-- The members that are marked, in order.
abbrev pub picked : {X : Type 0} → List X → List Bool → List X
picked [] marks = []
picked (x ∷ xs) [] = []
picked (x ∷ xs) (true ∷ marks) = x ∷ picked xs marks
picked (x ∷ xs) (false ∷ marks) = picked xs marks

-- Exposures of a proof are trimmed to a match: those that are kept are some of them, in their order, and each is possible after
-- those before it. From their facts alone, and labels behind theirs, firings lead to the same match. And the match rests on each.
pub record IsTrimmed (schema : SchemaParts) (proof : Proving) (exposures : List Exposure) (goal : Query) (head values : List Val)
    (kept : List Exposure) : Type 0 where
  pub marks : List Bool
  pub part : kept ≡ picked exposures marks
  pub order : IsExposing schema proof.constants proof.end.base [] kept
  pub next : ℕ
  pub labels : LabelsBelow (exposed_facts kept) next
  pub copy : List Trigger
  pub last : State
  pub run : IsFiringRun schema.rules (record { facts = exposed_facts kept; next = next }) copy last
  pub match : IsHeadMatch last.facts goal head values
  pub rests : (e : Exposure) → Contains kept e →
      RestsOn (RestsOnFact schema proof (map (ground (at values)) goal.atoms)) exposures e

-- The branch is read off the exposures of the proof as they are trimmed to a match of the query with that number. It costs what these
-- cost, and so at most what all of the proof's exposures cost.
pub record IsTrimmedBranch (schema : SchemaParts) (proof : Proving) (queries : List Query) (head : List Val) (number : ℕ)
    (values : List Val) (branch : Branch) : Type 0 where
  pub goal : Query
  pub of_number : slice_get queries number ≡ Some goal
  pub exposures : List Exposure
  pub shown : AllZip (IsShown schema) proof.exposed exposures
  pub kept : List Exposure
  pub trimmed : IsTrimmed schema proof exposures goal head values kept
  pub read : branch ≡ branch_of kept head
  pub cost : IsCost schema branch (exposures_cost kept)
  pub cheap : exposures_cost kept ≤ exposures_cost exposures
