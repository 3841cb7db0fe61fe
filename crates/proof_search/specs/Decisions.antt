-- What is decided of a statement: a plan, a refutation, or nothing within the firings.
use Rattle.std.specs.Prelude.{◌≡◌, ◌⊎◌, ◌<◌, ℕ, List, [], ◌∷◌, ◌++◌, Contains, length, slice_get, Some}
use Rattle.meaning.specs.declared.types.Branch.{Branch}
use Rattle.meaning.specs.declared.types.Query.{Query}
use Rattle.meaning.specs.declared.types.Plan.{Plan}
use Rattle.meaning.specs.declared.types.Select.{Select}
use Rattle.meaning.specs.declared.types.Statement.{Statement}
use Rattle.meaning.specs.declared.types.Firing.{Firing}
use Rattle.meaning.specs.Answers.{AnswersSelect}
use Rattle.meaning.specs.Costs.{IsRival}
use Rattle.meaning.specs.Conjunctive.{IsConjunctive, StandFor}
use Rattle.meaning.specs.Runs.{Proof, IsOrderedRun, HasGoal, opening, frozen_head}
use Rattle.integer_laws.specs.Claimed.{RefutesSorted}
use Rattle.access_schema.specs.declared.schema.Schema.{Schema}
use Rattle.access_schema.specs.Meaning.{meaning_of}
use Rattle.sql_conjunctive.specs.Form.{Clashes, IsNumbered}
use Rattle.findings.specs.declared.refutation.Witness.{Witness}
use Rattle.findings.specs.declared.decision.Chosen.{Chosen as Entry}
use Rattle.findings.specs.declared.decision.Decision.{Decision}
use Rattle.findings.specs.declared.decision.Decision.TheVariants as decision
use Rattle.proof_search.specs.Plans.{known_of, IsPlanFor, HasFewSteps, HasNoPlan}
use Rattle.proof_search.specs.Chosen.{AreChosen}

-- Some branch is a rival for the select.
abbrev pub HasRival : Schema → Statement → Select → Type 0
HasRival schema statement select = (branch : Branch) × IsRival (meaning_of schema) (known_of schema statement) statement select branch

-- The firings for the select are spent. The log is an ordered run of just so many firings from the opening proof of the select's conjunctive
-- form, whose variables are numbered by first occurrence, and which is one of queries that stand for the statement. None of these has a goal
-- after the run, and a further firing is active.
pub record IsSpentSelect (schema : Schema) (statement : Statement) (firings : ℕ) (select : Select) (log : List Firing) : Type 0 where
  pub queries : List Query
  pub query : Query
  pub end : Proof
  pub form : IsConjunctive (meaning_of schema) select query
  pub numbered : IsNumbered query
  pub stand : StandFor (meaning_of schema) queries statement
  pub among : Contains queries query
  pub count : length log ≡ firings
  pub run : IsOrderedRun (meaning_of schema) (known_of schema statement) 0 (opening query) log end
  pub no_goal : HasGoal queries end (frozen_head query) → ⊥
  pub goes_on : (firing : Firing) × (next : Proof)
      × IsOrderedRun (meaning_of schema) (known_of schema statement) 0 (opening query) (log ++ firing ∷ []) next

-- The conditions of the select make two different literals equal, or some branch is a rival for it.
abbrev pub IsAnswered : Schema → Statement → Select → Type 0
IsAnswered schema statement select = Clashes select.conditions ⊎ HasRival schema statement select

-- That is so of the select, or its firings are spent.
abbrev pub IsOpenSelect : Schema → Statement → ℕ → Select → Type 0
IsOpenSelect schema statement firings select =
    IsAnswered schema statement select ⊎ ((log : List Firing) × IsSpentSelect schema statement firings select log)

-- The pair refutes by instances of integers, so no lawful plan is equivalent to the statement on these; and the answer is as wide as each select. It is that of a select, whose
-- answer it is on the first instance, before which no select refutes.
pub record IsRefutation (schema : Schema) (statement : Statement) (firings : ℕ) (pair : Witness) : Type 0 where
  pub refutes : RefutesSorted (meaning_of schema) (known_of schema statement) statement pair.first pair.second pair.answer
  pub none : HasNoPlan schema statement
  pub wide : (select : Select) → Contains statement.selects select → length pair.answer ≡ length select.items
  pub number : ℕ
  pub select : Select
  pub of_statement : slice_get statement.selects number ≡ Some select
  pub answered : AnswersSelect select pair.first pair.answer
  pub before : (k : ℕ) (earlier : Select) → k < number → slice_get statement.selects k ≡ Some earlier →
      IsOpenSelect schema statement firings earlier

-- The firings for the select with that number are spent, with this log. Each select before it is answered, and none of all refutes.
pub record IsUndecided (schema : Schema) (statement : Statement) (firings number : ℕ) (log : List Firing) : Type 0 where
  pub select : Select
  pub of_statement : slice_get statement.selects number ≡ Some select
  pub spent : IsSpentSelect schema statement firings select log
  pub before : (k : ℕ) (earlier : Select) → k < number → slice_get statement.selects k ≡ Some earlier → IsAnswered schema statement earlier
  pub open_all : (other : Select) → Contains statement.selects other → IsOpenSelect schema statement firings other

-- What is decided of a statement with so many firings for the proof of each select, and so many units for the search for a cheaper
-- branch: a plan for it, with what is said of each select; a refutation of every plan; or nothing, as the firings are spent.
pub data IsDecision (schema : Schema) (statement : Statement) (firings search : ℕ) : Decision → Type 0 where
  plan : (plan : Plan) (entries : List Entry) → IsPlanFor schema statement plan → HasFewSteps plan →
      AreChosen schema statement firings search statement.selects plan.branches entries →
      IsDecision schema statement firings search (decision.Plan plan entries)
  no_plan : (pair : Witness) → IsRefutation schema statement firings pair → IsDecision schema statement firings search (decision.NoPlan pair)
  undecided : (select : ℕ) (log : List Firing) → IsUndecided schema statement firings select log →
      IsDecision schema statement firings search (decision.Undecided select log)
