-- What is said of the branch of each select: its cost, and how far others are known to cost no less
-- (Benedikt, Leblay, ten Cate and Tsamoura 2016, plans of least cost).
use Rattle.std.specs.Prelude.{◌≡◌, ℕ, ◌+◌, ◌*◌, ◌^◌, ◌<◌, ◌≤◌, List, [], ◌∷◌, length}
use Rattle.meaning.specs.declared.types.Branch.{Branch}
use Rattle.meaning.specs.declared.types.Firing.{Firing}
use Rattle.meaning.specs.declared.types.Query.{Query}
use Rattle.meaning.specs.declared.types.SchemaParts.{SchemaParts}
use Rattle.meaning.specs.declared.types.Select.{Select}
use Rattle.meaning.specs.declared.types.Statement.{Statement}
use Rattle.meaning.specs.declared.types.Trigger.{Trigger}
use Rattle.meaning.specs.Values.{Value}
use Rattle.meaning.specs.Conjunctive.{IsConjunctive}
use Rattle.meaning.specs.Costs.{IsCost}
use Rattle.meaning.specs.Runs.{Proof, IsRun, IsBaseRun, opening, opening_state}
use Rattle.meaning.specs.Triggers.{State, IsQuiet}
use Rattle.integer_laws.specs.Claimed.{IsSortedLeast}
use Rattle.exposure_search.specs.Tries.{exposures_in}
use Rattle.exposure_search.specs.Trials.{HasMoreToDo}
use Rattle.findings.specs.declared.least.Least.{Least}
use Rattle.findings.specs.declared.least.Least.TheVariants.{Shown, SearchSpent, FiringsSpent}
use Rattle.access_schema.specs.declared.schema.Schema.{Schema}
use Rattle.access_schema.specs.Meaning.{meaning_of}
use Rattle.findings.specs.declared.decision.Chosen.{Chosen as Entry}
use Rattle.findings.specs.declared.decision.Chosen.TheVariants as chosen
use Rattle.sql_conjunctive.specs.Form.{Clashes, IsNumbered}
use Rattle.proof_search.specs.Plans.{known_of}

-- The log is that of a run from the opening proof of the query, ordered or not.
abbrev pub IsRunOf : SchemaParts → List Value → Query → List Firing → Type 0
IsRunOf schema known query log = (end : Proof) × IsRun schema known 0 (opening query) log end

-- A pair of numbers is enough where every run of the query has at most m firings, which are no more than the budget, and at most n
-- exposures, and so many units serve for all sets of n exposures.
pub record IsEnough (schema : SchemaParts) (known : List Value) (query : Query) (firings search m n : ℕ) : Type 0 where
  pub within : m ≤ firings
  pub few_firings : (log : List Firing) → IsRunOf schema known query log → length log ≤ m
  pub few_exposures : (log : List Firing) → IsRunOf schema known query log → exposures_in log ≤ n
  pub units : (2 ^ n + 1) * (m + 1) ≤ search

-- No pair of numbers is enough for the query.
abbrev pub NoneIsEnough : SchemaParts → List Value → ℕ → ℕ → Query → Type 0
NoneIsEnough schema known firings search query = (m n : ℕ) → IsEnough schema known query firings search m n → ⊥

-- Some run of the query has more firings than the budget.
abbrev pub HasLongRun : SchemaParts → List Value → ℕ → Query → Type 0
HasLongRun schema known firings query = (log : List Firing) × IsRunOf schema known query log × (firings < length log)

-- More is to be done for the branch of the query than so many units allow: behind the query's base firings there are sets of exposures
-- that cost less than the branch, and firings that are due in their copies. Each takes a unit.
pub record HasMoreFor (schema : SchemaParts) (known : List Value) (search : ℕ) (branch : Branch) (query : Query) : Type 0 where
  pub bases : List Trigger
  pub base : State
  pub cost : ℕ
  pub fired : IsBaseRun schema.rules (opening_state query) bases base
  pub quiet : IsQuiet schema.rules base
  pub costs : IsCost schema branch cost
  pub more : HasMoreToDo schema known base cost search

-- The units are spent: no pair of numbers is enough for the query, and more is to be done for its branch.
pub record AreSpent (schema : SchemaParts) (known : List Value) (firings search : ℕ) (branch : Branch) (query : Query) : Type 0 where
  pub none_enough : NoneIsEnough schema known firings search query
  pub more : HasMoreFor schema known search branch query

-- That is so of the select's conjunctive form, whose variables are numbered by first occurrence.
pub record OfForm (schema : SchemaParts) (select : Select) (P : Query → Type 0) : Type 0 where
  pub query : Query
  pub form : IsConjunctive schema select query
  pub numbered : IsNumbered query
  pub so : P query

-- What is said of the cost of a select's branch is so: no rival on instances of integers costs less; or all units of the search were spent, and there was more to
-- do; or some run of the select is longer than the budget of firings.
abbrev pub IsSaid : Schema → Statement → ℕ → ℕ → Select → Branch → Least → Type 0
IsSaid schema statement firings search select branch Shown = IsSortedLeast (meaning_of schema) (known_of schema statement) statement select branch
IsSaid schema statement firings search select branch (SearchSpent units) =
    (units ≡ search) × OfForm (meaning_of schema) select (AreSpent (meaning_of schema) (known_of schema statement) firings search branch)
IsSaid schema statement firings search select branch (FiringsSpent spent) =
    (spent ≡ firings) × OfForm (meaning_of schema) select (HasLongRun (meaning_of schema) (known_of schema statement) firings)

-- There is an entry for each select, in order: one without a row exactly where its conditions make two different literals equal, and
-- otherwise the next branch, with its cost and what is said of it.
abbrev pub AreChosen : Schema → Statement → ℕ → ℕ → List Select → List Branch → List Entry → Type 0
AreChosen schema statement firings search [] [] [] = Unit {0}
AreChosen schema statement firings search (select ∷ selects) branches (chosen.NoRow ∷ entries) =
    Clashes select.conditions × AreChosen schema statement firings search selects branches entries
AreChosen schema statement firings search (select ∷ selects) (branch ∷ branches) (chosen.Branch cost least ∷ entries) =
    (Clashes select.conditions → ⊥) × IsCost (meaning_of schema) branch cost × IsSaid schema statement firings search select branch least
    × AreChosen schema statement firings search selects branches entries
AreChosen _ _ _ _ _ _ _ = ⊥
