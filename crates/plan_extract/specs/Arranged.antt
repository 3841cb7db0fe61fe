-- Branches that are read off the exposures of a proof in another order.
use Rattle.std.specs.Prelude.{◌≡◌, ◌≤◌, ℕ, List, [], ◌∷◌, Contains, IsPermutation, slice_get, Some}
use Rattle.std.specs.List.{AllZip}
use Rattle.meaning.specs.declared.types.SchemaParts.{SchemaParts}
use Rattle.meaning.specs.declared.types.Query.{Query}
use Rattle.meaning.specs.declared.types.Branch.{Branch}
use Rattle.meaning.specs.declared.types.Val.{Val}
use Rattle.meaning.specs.declared.types.Val.TheVariants.{Label}
use Rattle.meaning.specs.Costs.{IsCost}
use Rattle.meaning.specs.Extract.{Exposure, exposures_cost, IsExposing, columns_after, branch_of}
use Rattle.accessible_copy.specs.Proving.{Proving}
use Rattle.plan_extract.specs.Trimmed.{IsShown, IsTrimmed}

-- Each label at an input of an exposure has a column before it, from these columns on.
abbrev pub AreKnown : List ℕ → List Exposure → Type 0
AreKnown columns [] = Unit {0}
AreKnown columns (e ∷ exposures) =
    ((place label : ℕ) → Contains e.method.inputs place → slice_get e.fact.vals place ≡ Some (Label label) → Contains columns label)
    × AreKnown (columns_after columns e.fact.vals) exposures

-- The branch is read off the exposures of the proof as they are trimmed to a match of the query with that number, in some order in
-- which each is possible after those before it. It costs what these cost, and so at most what all of the proof's exposures cost.
pub record IsArrangedBranch (schema : SchemaParts) (proof : Proving) (queries : List Query) (head : List Val) (number : ℕ)
    (values : List Val) (branch : Branch) : Type 0 where
  pub goal : Query
  pub of_number : slice_get queries number ≡ Some goal
  pub exposures : List Exposure
  pub shown : AllZip (IsShown schema) proof.exposed exposures
  pub kept : List Exposure
  pub trimmed : IsTrimmed schema proof exposures goal head values kept
  pub ordered : List Exposure
  pub same : IsPermutation kept ordered
  pub order : IsExposing schema proof.constants proof.end.base [] ordered
  pub read : branch ≡ branch_of ordered head
  pub cost : IsCost schema branch (exposures_cost kept)
  pub cheap : exposures_cost kept ≤ exposures_cost exposures
