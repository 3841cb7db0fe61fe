-- The requests of a plan on an instance (Benedikt, Leblay, ten Cate and Tsamoura 2016, accesses).
-- One step of one branch is one round, and asks each of its requests once.
use Rattle.std.specs.Prelude.{◌≡◌, ◌↔◌, ℕ, ◌+◌, List, [], ◌∷◌, ◌++◌, Contains, slice_get, Option, Some, None}
use Rattle.std.specs.List.{AllZip}
use Rattle.std.specs.Ordering.{nat_cmp}
use Rattle.std.specs.Cmp.Lexicographic.{slice_cmp}
use Rattle.std.specs.declared.cmp.Ordering.{Ordering}
use Rattle.meaning.specs.declared.types.Method.{Method}
use Rattle.meaning.specs.declared.types.SchemaParts.{SchemaParts}
use Rattle.meaning.specs.declared.types.Fact.{Fact}
use Rattle.meaning.specs.declared.types.Place.{Place}
use Rattle.meaning.specs.declared.types.Step.{Step}
use Rattle.meaning.specs.declared.types.Branch.{Branch}
use Rattle.meaning.specs.declared.types.Plan.{Plan}
use Rattle.meaning.specs.declared.types.Request.{Request}
use Rattle.meaning.specs.declared.types.Place.TheVariants.{Const, Col, New}
use Rattle.std.specs.declared.cmp.Ordering.TheVariants.{Less}
use Rattle.meaning.specs.Values.{Value, Row}
use Rattle.meaning.specs.Plans.{IsMethod}
use Rattle.meaning.specs.Rows.{LeadsTo}

-- The value of an input place before the step: a new place, or no place, has none.
abbrev pub input_value : Row → Option Place → Option Value
input_value row None = None
input_value row (Some (Const c)) = Some c
input_value row (Some (Col k)) = slice_get row k
input_value row (Some New) = None

-- Rows are ordered column by column, and values by their bytes.
abbrev pub rows_cmp : Row → Row → Ordering
rows_cmp xs ys = slice_cmp (slice_cmp nat_cmp) xs ys

-- A step wants a request where some partial row before it has the request's values at the method's inputs.
pub record Wants (schema : SchemaParts) (facts : List Fact) (before : List Step) (step : Step)
    (request : Request) : Type 0 where
  pub row : Row
  pub method : Method
  pub leads : LeadsTo schema facts before [] row
  pub named : IsMethod schema step.method method
  pub of_relation : request.rel ≡ method.rel
  pub positions : request.positions ≡ method.inputs
  pub values : AllZip (λ p value. input_value row (slice_get step.places p) ≡ Some value)
      request.positions request.values

-- A round is the requests that the step wants, each once and in ascending order of their values.
pub record IsRound (schema : SchemaParts) (facts : List Fact) (before : List Step) (step : Step)
    (requests : List Request) : Type 0 where
  pub ascending : (i : ℕ) (first second : Request) → slice_get requests i ≡ Some first →
      slice_get requests (i + 1) ≡ Some second → rows_cmp first.values second.values ≡ Less
  pub exactly : (request : Request) → Contains requests request ↔ Wants schema facts before step request

-- The requests of steps, after those before them, are their rounds in order.
abbrev pub AreStepsRequests : SchemaParts → List Fact → List Step → List Step → List Request → Type 0
AreStepsRequests schema facts before [] requests = requests ≡ []
AreStepsRequests schema facts before (step ∷ steps) requests =
    (now later : List Request) × (requests ≡ now ++ later) × IsRound schema facts before step now
    × AreStepsRequests schema facts (before ++ step ∷ []) steps later

-- The requests of branches are those of each branch's steps in order.
abbrev pub AreBranchesRequests : SchemaParts → List Fact → List Branch → List Request → Type 0
AreBranchesRequests schema facts [] requests = requests ≡ []
AreBranchesRequests schema facts (branch ∷ branches) requests =
    (now later : List Request) × (requests ≡ now ++ later) × AreStepsRequests schema facts [] branch.steps now
    × AreBranchesRequests schema facts branches later

-- The requests of a plan are those of its branches.
abbrev pub AreRequests : SchemaParts → Plan → List Fact → List Request → Type 0
AreRequests schema plan facts requests = AreBranchesRequests schema facts plan.branches requests
