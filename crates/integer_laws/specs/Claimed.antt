-- Claims about sorted models alone: those whose values at integer columns are integers.
use Rattle.std.specs.Prelude.{ℕ, ◌≤◌, List, Contains}
use Rattle.meaning.specs.declared.types.SchemaParts.{SchemaParts}
use Rattle.meaning.specs.declared.types.Fact.{Fact}
use Rattle.meaning.specs.declared.types.Query.{Query}
use Rattle.meaning.specs.declared.types.Select.{Select}
use Rattle.meaning.specs.declared.types.Statement.{Statement}
use Rattle.meaning.specs.declared.types.Branch.{Branch}
use Rattle.meaning.specs.declared.types.Plan.{Plan}
use Rattle.meaning.specs.declared.types.Val.{Val}
use Rattle.meaning.specs.declared.types.Val.TheVariants.{Const}
use Rattle.meaning.specs.declared.types.Ground.{Ground}
use Rattle.meaning.specs.Values.{Value, Row}
use Rattle.meaning.specs.Matching.{AnswersQuery, IsQueryAnswer, GroundsOf}
use Rattle.meaning.specs.Answers.{AnswersSelect, Answers}
use Rattle.meaning.specs.Plans.{IsLawfulBranch}
use Rattle.meaning.specs.Rows.{IsRow, IsBranchRow}
use Rattle.meaning.specs.Claims.{IsModel, Refutes}
use Rattle.meaning.specs.Costs.{IsCost}
use Rattle.meaning.specs.Triggers.{State}
use Rattle.meaning_laws.specs.Rests.{IsRest}
use Rattle.integer_laws.specs.Sorted.{AreSortedFacts, AreSortedGrounds}

-- A sorted model is a model whose facts are sorted.
pub record IsSortedModel (schema : SchemaParts) (facts : List Fact) : Type 0 where
  pub model : IsModel schema facts
  pub sorted : AreSortedFacts schema facts

-- A plan is equivalent to a statement on sorted models where on each of them its rows are the statement's answers.
pub record IsSortedEquivalent (plan : Plan) (statement : Statement) (schema : SchemaParts) : Type 0 where
  pub sound : (facts : List Fact) (row : Row) → IsSortedModel schema facts →
      IsRow schema plan facts row → Answers statement facts row
  pub complete : (facts : List Fact) (row : Row) → IsSortedModel schema facts →
      Answers statement facts row → IsRow schema plan facts row

-- Two instances and a row refute as sorted models where they refute and both instances have integers at integer columns.
pub record RefutesSorted (schema : SchemaParts) (constants : List Value) (statement : Statement)
    (first second : List Fact) (row : Row) : Type 0 where
  pub refutes : Refutes schema constants statement first second row
  pub first_sorted : AreSortedFacts schema first
  pub second_sorted : AreSortedFacts schema second

-- A rival on sorted models for a select is a lawful branch whose rows on each of them are answers of the statement, and have
-- all answers of the select.
pub record IsSortedSelectRival (schema : SchemaParts) (constants : List Value) (statement : Statement) (select : Select)
    (branch : Branch) : Type 0 where
  pub lawful : IsLawfulBranch schema constants branch
  pub sound : (facts : List Fact) (row : Row) → IsSortedModel schema facts →
      IsBranchRow schema branch facts row → Answers statement facts row
  pub complete : (facts : List Fact) (row : Row) → IsSortedModel schema facts →
      AnswersSelect select facts row → IsBranchRow schema branch facts row

-- A branch is least for a select on sorted models where every such rival costs at least as much.
abbrev pub IsSortedLeast : SchemaParts → List Value → Statement → Select → Branch → Type 0
IsSortedLeast schema constants statement select branch =
    (rival : Branch) (cost other : ℕ) → IsSortedSelectRival schema constants statement select rival →
    IsCost schema branch cost → IsCost schema rival other → cost ≤ other

-- A rival on sorted models is a lawful branch whose rows on each of them are answers of the queries, and have all
-- answers of its query.
pub record IsSortedRival (schema : SchemaParts) (constants : List Value) (queries : List Query) (query : Query)
    (branch : Branch) : Type 0 where
  pub lawful : IsLawfulBranch schema constants branch
  pub sound : (facts : List Fact) (row : Row) → IsSortedModel schema facts → IsBranchRow schema branch facts row →
      (goal : Query) × Contains queries goal × AnswersQuery goal facts row
  pub complete : (facts : List Fact) (row : Row) → IsSortedModel schema facts →
      AnswersQuery query facts row → IsBranchRow schema branch facts row

-- A state is at rest and sorted over facts.
pub record IsSortedRest (schema : SchemaParts) (constants : List Value) (next most : ℕ) (facts : List Ground) (end : State) : Type 0 where
  pub rest : IsRest schema constants next most facts end
  pub sorted : AreSortedGrounds schema end.facts

-- Facts have a goal where the head answers one of the queries on every sorted state at rest over them.
abbrev pub HasSortedGoalOver : SchemaParts → List Value → List Query → List Val → ℕ → ℕ → List Ground → Type 0
HasSortedGoalOver schema constants queries head next most facts =
    (end : State) → IsSortedRest schema constants next most facts end →
    (goal : Query) × Contains queries goal × IsQueryAnswer Const (GroundsOf end.facts) goal head
