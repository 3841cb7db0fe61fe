-- What the proofs of queries come to.
use Rattle.std.specs.Prelude.{◌≡◌, ◌<◌, ℕ, List, Contains, slice_get, Some}
use Rattle.std.specs.List.{AllZip}
use Rattle.meaning.specs.declared.types.SchemaParts.{SchemaParts}
use Rattle.meaning.specs.declared.types.Query.{Query}
use Rattle.meaning.specs.declared.types.Firing.{Firing}
use Rattle.meaning.specs.Values.{Value}
use Rattle.findings.specs.declared.refutation.Witness.{Witness}
use Rattle.proof_search.specs.declared.outcome.First.{First}
use Rattle.proof_search.specs.declared.outcome.QueryOutcome.{QueryOutcome}
use Rattle.proof_search.specs.declared.outcome.QueryOutcome.TheVariants as one
use Rattle.proof_search.specs.declared.outcome.Outcome.{Outcome}
use Rattle.proof_search.specs.declared.outcome.Outcome.TheVariants as all
use Rattle.proof_search.specs.Branches.{IsQueryBranch, IsRefutingPair, IsSpentLog, HasBranch, IsOpen}

-- The branch that is found first is one for the query.
abbrev pub IsFirst : SchemaParts → List Value → List Query → Query → First → Type 0
IsFirst schema known queries query first = IsQueryBranch schema known queries query first.branch

-- What the proof of a query comes to.
abbrev pub IsQueryOutcome : SchemaParts → List Value → List Query → ℕ → Query → QueryOutcome → Type 0
IsQueryOutcome schema known queries firings query (one.Branch first) = IsFirst schema known queries query first
IsQueryOutcome schema known queries firings query (one.Stuck pair) = IsRefutingPair schema known queries query pair
IsQueryOutcome schema known queries firings query (one.Spent log) = IsSpentLog schema known queries firings query log

-- The pair is that of a query before which each has a branch or spent its firings.
pub record IsFirstStuck (schema : SchemaParts) (known : List Value) (queries : List Query) (firings : ℕ) (pair : Witness) : Type 0 where
  pub number : ℕ
  pub query : Query
  pub at : slice_get queries number ≡ Some query
  pub stuck : IsRefutingPair schema known queries query pair
  pub before : (k : ℕ) (earlier : Query) → k < number → slice_get queries k ≡ Some earlier → IsOpen schema known queries firings earlier

-- The log is that of the query of that number, whose firings are spent. Each query before it has a branch, and each of all has a branch or
-- spent its firings.
pub record IsFirstSpent (schema : SchemaParts) (known : List Value) (queries : List Query) (firings number : ℕ) (log : List Firing) : Type 0 where
  pub query : Query
  pub at : slice_get queries number ≡ Some query
  pub spent : IsSpentLog schema known queries firings query log
  pub before : (k : ℕ) (earlier : Query) → k < number → slice_get queries k ≡ Some earlier → HasBranch schema known queries earlier
  pub open_all : (other : Query) → Contains queries other → IsOpen schema known queries firings other

-- What the proofs of the queries come to: a branch for each; or the pair of the first that is stuck; or, where none is, the number and the
-- log of the first whose firings are spent.
abbrev pub IsOutcome : SchemaParts → List Value → List Query → ℕ → Outcome → Type 0
IsOutcome schema known queries firings (all.Branches firsts) = AllZip (IsFirst schema known queries) queries firsts
IsOutcome schema known queries firings (all.Stuck pair) = IsFirstStuck schema known queries firings pair
IsOutcome schema known queries firings (all.Spent number log) = IsFirstSpent schema known queries firings number log
