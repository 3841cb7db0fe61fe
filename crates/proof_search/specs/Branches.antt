-- What proofs of a query come to: branches, pairs that refute, and logs.
use Rattle.std.specs.Prelude.{◌≡◌, ◌≤◌, ◌⊎◌, ℕ, List, [], ◌∷◌, ◌++◌, length}
use Rattle.meaning.specs.declared.types.SchemaParts.{SchemaParts}
use Rattle.meaning.specs.declared.types.Query.{Query}
use Rattle.meaning.specs.declared.types.Branch.{Branch}
use Rattle.meaning.specs.declared.types.Firing.{Firing}
use Rattle.meaning.specs.declared.types.Statement.{Statement}
use Rattle.meaning.specs.Values.{Value}
use Rattle.meaning.specs.Matching.{AnswersQuery}
use Rattle.meaning.specs.Runs.{Proof, IsOrderedRun, HasGoal, opening, frozen_head}
use Rattle.meaning.specs.Conjunctive.{StandFor}
use Rattle.meaning.specs.Extract.{IsQueryRival}
use Rattle.integer_laws.specs.Claimed.{RefutesSorted}
use Rattle.rule_pass.specs.declared.pass.TheConstants.{MOST_FIRINGS}
use Rattle.findings.specs.declared.refutation.Witness.{Witness}

-- The branch is a rival for its query, among all the queries, as wide as its head, and has at most a step for each firing of a proof.
pub record IsQueryBranch (schema : SchemaParts) (known : List Value) (queries : List Query) (query : Query) (branch : Branch) : Type 0 where
  pub rival : IsQueryRival schema known queries query branch
  pub width : length branch.output ≡ length query.head
  pub few : length branch.steps ≤ MOST_FIRINGS

-- The pair refutes each statement for which the queries stand, by instances of integers. Its answer is one of the query on the first instance, and as wide as the
-- query's head.
pub record IsRefutingPair (schema : SchemaParts) (known : List Value) (queries : List Query) (query : Query) (pair : Witness) : Type 0 where
  pub refutes : (statement : Statement) → StandFor schema queries statement →
      RefutesSorted schema known statement pair.first pair.second pair.answer
  pub answered : AnswersQuery query pair.first pair.answer
  pub wide : length pair.answer ≡ length query.head

-- The log is an ordered run of just so many firings from the query's opening proof. None of the queries has a goal after it, and a
-- further firing is active.
pub record IsSpentLog (schema : SchemaParts) (known : List Value) (queries : List Query) (firings : ℕ) (query : Query) (log : List Firing) : Type 0 where
  pub end : Proof
  pub count : length log ≡ firings
  pub run : IsOrderedRun schema known 0 (opening query) log end
  pub no_goal : HasGoal queries end (frozen_head query) → ⊥
  pub goes_on : (firing : Firing) × (next : Proof) × IsOrderedRun schema known 0 (opening query) (log ++ firing ∷ []) next

-- The query has a branch.
abbrev pub HasBranch : SchemaParts → List Value → List Query → Query → Type 0
HasBranch schema known queries query = (branch : Branch) × IsQueryBranch schema known queries query branch

-- The query has a branch, or its firings are spent.
abbrev pub IsOpen : SchemaParts → List Value → List Query → ℕ → Query → Type 0
IsOpen schema known queries firings query =
    HasBranch schema known queries query ⊎ ((log : List Firing) × IsSpentLog schema known queries firings query log)
