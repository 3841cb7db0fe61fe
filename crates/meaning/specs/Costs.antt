-- The cost of a branch, and that none costs less (Benedikt, Leblay, ten Cate and Tsamoura 2016, cost of plans).
use Rattle.std.specs.Prelude.{◌≡◌, ℕ, ◌+◌, ◌≤◌, List, [], ◌∷◌}
use Rattle.meaning.specs.declared.types.Method.{Method}
use Rattle.meaning.specs.declared.types.SchemaParts.{SchemaParts}
use Rattle.meaning.specs.declared.types.Fact.{Fact}
use Rattle.meaning.specs.declared.types.Select.{Select}
use Rattle.meaning.specs.declared.types.Statement.{Statement}
use Rattle.meaning.specs.declared.types.Step.{Step}
use Rattle.meaning.specs.declared.types.Branch.{Branch}
use Rattle.meaning.specs.Values.{Value, Row}
use Rattle.meaning.specs.Answers.{AnswersSelect, Answers}
use Rattle.meaning.specs.Plans.{IsMethod, IsLawfulBranch}
use Rattle.meaning.specs.Rows.{IsBranchRow}
use Rattle.meaning.specs.Claims.{IsModel}

-- The cost of steps is the sum of the costs of their methods.
abbrev pub IsStepsCost : SchemaParts → List Step → ℕ → Type 0
IsStepsCost schema [] cost = cost ≡ 0
IsStepsCost schema (step ∷ steps) cost =
    (method : Method) × (rest : ℕ) × IsMethod schema step.method method × IsStepsCost schema steps rest
    × (cost ≡ method.cost + rest)

-- The cost of a branch is that of its steps.
abbrev pub IsCost : SchemaParts → Branch → ℕ → Type 0
IsCost schema branch cost = IsStepsCost schema branch.steps cost

-- A rival for a select is a lawful branch of any length whose rows on every model are answers of the statement, and
-- have all answers of the select.
pub record IsRival (schema : SchemaParts) (constants : List Value) (statement : Statement) (select : Select)
    (branch : Branch) : Type 0 where
  pub lawful : IsLawfulBranch schema constants branch
  pub sound : (facts : List Fact) (row : Row) → IsModel schema facts →
      IsBranchRow schema branch facts row → Answers statement facts row
  pub complete : (facts : List Fact) (row : Row) → IsModel schema facts →
      AnswersSelect select facts row → IsBranchRow schema branch facts row

-- A branch is least for a select where every rival costs at least as much.
abbrev pub IsLeast : SchemaParts → List Value → Statement → Select → Branch → Type 0
IsLeast schema constants statement select branch =
    (rival : Branch) (cost other : ℕ) → IsRival schema constants statement select rival →
    IsCost schema branch cost → IsCost schema rival other → cost ≤ other
