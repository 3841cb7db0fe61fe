-- What the rounds of a branch, and of a plan, need and mean.
use Rattle.std.specs.Prelude.{◌≡◌, ◌↔◌, ◌⊎◌, ℕ, ◌<◌, List, [], ◌∷◌, map, take, Contains, slice_get, Option, Some, None, Bool}
use Rattle.meaning.specs.declared.types.Fact.{Fact}
use Rattle.meaning.specs.declared.types.Method.{Method}
use Rattle.meaning.specs.declared.types.SchemaParts.{SchemaParts}
use Rattle.meaning.specs.declared.types.Place.{Place}
use Rattle.meaning.specs.declared.types.Place.TheVariants.{Const, Col, New}
use Rattle.meaning.specs.declared.types.Out.{Out}
use Rattle.meaning.specs.declared.types.Out.TheVariants.{Const as Fixed, Col as Made}
use Rattle.meaning.specs.declared.types.Step.{Step}
use Rattle.meaning.specs.declared.types.Branch.{Branch}
use Rattle.meaning.specs.declared.types.Request.{Request}
use Rattle.meaning.specs.Plans.{made, IsMethod}
use Rattle.meaning.specs.Rows.{LeadsTo, IsBranchRow}
use Rattle.meaning.specs.Requests.{AreStepsRequests, AreBranchesRequests}
use Rattle.access_schema.specs.declared.schema.Schema.{Schema}
use Rattle.access_schema.specs.declared.schema.SourceLine.{SourceLine}
use Rattle.access_schema.specs.Meaning.{meaning_of}
use Rattle.source_trait.specs.Asking.{RowList, Seen}
use Rattle.source_trait.specs.Causes.{Rose}
use Rattle.source_trait.specs.Lanes.{AtKind, SourceSteps}
use Rattle.source_trait.specs.declared.lanes.Kind.{Kind}
use Rattle.middleware.specs.PlanSources.{line_for}
use Rattle.middleware.specs.Joining.{text_or}
use Rattle.middleware.specs.Rounds.{CanAskAll}
use Rattle.middleware.specs.Naming.{AreNamed}
use Rattle.middleware.specs.Blocks.{AreBlocks}
use Rattle.middleware.specs.declared.blocks.Block.{Block}

-- ---- what lawfulness leaves for the rounds

-- a place whose value is known before the step, where there are so many columns
abbrev pub IsInput : ℕ → Option Place → Type 0
IsInput columns None = ⊥
IsInput columns (Some (Const c)) = Unit {0}
IsInput columns (Some (Col k)) = k < columns
IsInput columns (Some New) = ⊥

-- how many columns there are after the steps
abbrev pub columns_after : ℕ → List Step → ℕ
columns_after n [] = n
columns_after n (step ∷ steps) = columns_after (made n step.places) steps

-- a step has a method, the values at its inputs are known where there are so many columns before it, and its places name columns that
-- there are by then
pub record IsReady (schema : SchemaParts) (columns : ℕ) (step : Step) : Type 0 where
  pub method : Method
  pub named : IsMethod schema step.method method
  pub inputs : (p : ℕ) → Contains method.inputs p → IsInput columns (slice_get step.places p)
  pub names : AreNamed columns step.places

-- each step is ready after those before it
abbrev pub AreReady : SchemaParts → List Step → Type 0
AreReady schema steps = (i : ℕ) (step : Step) → slice_get steps i ≡ Some step → IsReady schema (columns_after 0 (take i steps)) step

-- a column of the output exists
abbrev pub IsReadyOut : ℕ → Out → Type 0
IsReadyOut columns (Fixed c) = Unit {0}
IsReadyOut columns (Made k) = k < columns

-- the steps are ready, and the columns of the output exist after them
pub record IsReadyBranch (schema : SchemaParts) (branch : Branch) : Type 0 where
  pub steps : AreReady schema branch.steps
  pub output : (out : Out) → Contains branch.output out → IsReadyOut (columns_after 0 branch.steps) out

-- the value of an output place, or the empty text
abbrev pub out_value : List (List ℕ) → Out → List ℕ
out_value row (Fixed c) = c
out_value row (Made k) = text_or (slice_get row k)

-- the output of a partial row
abbrev pub output_of : List Out → List (List ℕ) → List (List ℕ)
output_of outs row = map (out_value row) outs

-- the rows of one list were added to those of another
abbrev pub HasAdded : RowList → RowList → RowList → Type 0
HasAdded before more after = (row : List (List ℕ)) → Contains after row ↔ (Contains before row ⊎ Contains more row)

-- ---- what the sources of a lane are asked

-- the source of the relation's kind may be asked each request of the method
pub record IsAskable {S : Type 0} (seen : S → Seen) (schema : Schema) (kinds : List (Kind S)) (method : Method) : Type 0 where
  pub line : SourceLine
  pub line_is : line_for method.rel schema.sources ≡ Some line
  pub ready : AtKind kinds line.kind (λ s. CanAskAll ((seen s).attached method.rel) method)

-- each method of the steps may be asked
abbrev pub AreAskable : {S : Type 0} → (S → Seen) → Schema → List (Kind S) → List Step → Type 0
AreAskable seen schema kinds steps = (step : Step) (method : Method) → Contains steps step → IsMethod (meaning_of schema) step.method method → IsAskable seen schema kinds method

-- the count of faults of the source of the relation's kind rose
pub record RoseAt {S : Type 0} (seen : S → Seen) (schema : Schema) (rel : ℕ) (old new : List (Kind S)) : Type 0 where
  pub line : SourceLine
  pub line_is : line_for rel schema.sources ≡ Some line
  pub rose : SourceSteps old new line.kind (λ s t. Rose (seen s).faults (seen t).faults)

-- ---- the rounds of a branch

-- a list of rows is the partial rows that the steps lead to
abbrev pub ArePartial : SchemaParts → List Fact → List Step → RowList → Type 0
ArePartial schema facts steps rows = (row : List (List ℕ)) → Contains rows row ↔ LeadsTo schema facts steps [] row

-- on an instance: the partial rows of the steps, whose blocks these are, and their requests
pub record Means (schema : SchemaParts) (facts : List Fact) (live : ℕ → Bool) (steps : List Step) (blocks : List Block) (requests : List Request) : Type 0 where
  pub partial : RowList
  pub partial_are : ArePartial schema facts steps partial
  pub blocks_are : AreBlocks live (columns_after 0 steps) partial blocks
  pub are : AreStepsRequests schema facts [] steps requests

-- ---- the branches of a plan

-- on an instance: the rows of a branch were added, and its requests are these
pub record AddsBranch (schema : SchemaParts) (facts : List Fact) (branch : Branch) (rows next : RowList) (requests : List Request) : Type 0 where
  pub exactly : (row : List (List ℕ)) → Contains next row ↔ (Contains rows row ⊎ IsBranchRow schema branch facts row)
  pub are : AreStepsRequests schema facts [] branch.steps requests

-- on an instance: the rows of the branches, and their requests
pub record BranchesMean (schema : SchemaParts) (facts : List Fact) (branches : List Branch) (rows : RowList) (requests : List Request) : Type 0 where
  pub exactly : (row : List (List ℕ)) → Contains rows row ↔ ((branch : Branch) × Contains branches branch × IsBranchRow schema branch facts row)
  pub are : AreBranchesRequests schema facts branches requests
