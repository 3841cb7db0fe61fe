-- What makes a branch one for a query.
use Rattle.std.specs.Prelude.{◌≡◌, ◌↔◌, List, length}
use Rattle.meaning.specs.declared.types.SchemaParts.{SchemaParts}
use Rattle.meaning.specs.declared.types.Fact.{Fact}
use Rattle.meaning.specs.declared.types.Query.{Query}
use Rattle.meaning.specs.declared.types.Branch.{Branch}
use Rattle.meaning.specs.declared.types.Val.{Val}
use Rattle.meaning.specs.Values.{Value, Row}
use Rattle.meaning.specs.Matching.{AnswersQuery, Meets}
use Rattle.meaning.specs.Plans.{IsLawfulBranch}
use Rattle.meaning.specs.Rows.{IsBranchRow}
use Rattle.meaning.specs.Runs.{opening, frozen_head}
use Rattle.meaning.specs.Fitting.{QueryFits, QueryHasConstants}
use Rattle.accessible_copy.specs.Proving.{Proving, IsProofOf}

-- The branch calls methods with constants of the list or received values alone, is as wide as the query's head, and its rows
-- are the query's answers on every instance.
pub record IsBranchOf (schema : SchemaParts) (constants : List Value) (query : Query) (branch : Branch) : Type 0 where
  pub lawful : IsLawfulBranch schema constants branch
  pub width : length branch.output ≡ length query.head
  pub rows : (facts : List Fact) (row : Row) → IsBranchRow schema branch facts row ↔ AnswersQuery query facts row

-- The branch is lawful and as wide as the query's head; on every instance that meets the rules each of its rows is an answer of
-- the goal, and each answer of the query is one of its rows.
pub record IsBranchFor (schema : SchemaParts) (known : List Value) (query goal : Query) (branch : Branch) : Type 0 where
  pub lawful : IsLawfulBranch schema known branch
  pub sound : (facts : List Fact) (row : Row) → Meets facts schema → IsBranchRow schema branch facts row → AnswersQuery goal facts row
  pub complete : (facts : List Fact) (row : Row) → Meets facts schema → AnswersQuery query facts row → IsBranchRow schema branch facts row
  pub width : length branch.output ≡ length query.head

-- The proof is that of its log, which is a run from the opening of the query. The query fits the schema, its constants are known,
-- and the head is its frozen one.
pub record IsProofFor (schema : SchemaParts) (proof : Proving) (head : List Val) (query : Query) : Type 0 where
  pub run : IsProofOf schema proof
  pub begun : proof.start ≡ opening query
  pub fits : QueryFits schema query
  pub constants : QueryHasConstants proof.constants query
  pub head_is : head ≡ frozen_head query
