-- What the status of a run of `explain` or `run` says of the statement, that of `batch` of the statements, and that of `check` of the plan.
use Rattle.std.specs.Prelude.{◌≡◌, ◌⊎◌, ◌<◌, ◌++◌, ◌∷◌, ℕ, false, List, Contains, Option, length}
use Rattle.meaning.specs.declared.types.Firing.{Firing}
use Rattle.meaning.specs.declared.types.Branch.{Branch}
use Rattle.meaning.specs.declared.types.Plan.{Plan}
use Rattle.meaning.specs.declared.types.Query.{Query}
use Rattle.meaning.specs.declared.types.Select.{Select}
use Rattle.meaning.specs.declared.types.Statement.{Statement}
use Rattle.meaning.specs.declared.types.Trigger.{Trigger}
use Rattle.meaning.specs.Claims.{IsEquivalent}
use Rattle.meaning.specs.Conjunctive.{IsConjunctive}
use Rattle.meaning.specs.Plans.{IsLawful}
use Rattle.meaning.specs.Judge.{IsBranchQuery}
use Rattle.meaning.specs.Triggers.{State}
use Rattle.meaning.specs.Runs.{Proof, IsOrderedRun, opening, IsBaseRun, opening_state}
use Rattle.integer_laws.specs.Claimed.{IsSortedEquivalent}
use Rattle.access_schema.specs.declared.schema.Schema.{Schema}
use Rattle.access_schema.specs.Meaning.{meaning_of}
use Rattle.sql_conjunctive.specs.Form.{IsNumbered}
use Rattle.proof_search.specs.Plans.{known_of, HasNoPlan}
use Rattle.plan_check.specs.Verdicts.{IsLegalOver}
use Rattle.command_io.specs.declared.exit_status.Status.{Status}
use Rattle.command_io.specs.declared.exit_status.Status.TheVariants as is
use Rattle.command_io.specs.Inputs.{Contents, SchemaIsRead, QueryIsRead, BatchIsRead, PlanIsRead}
use Rattle.command_words.specs.Words.{Command}
use Rattle.command_words.specs.Words.Command.{Explain, Run, Batch, Check, Crawl, Reach}

-- Some lawful plan over the known constants is equivalent to the statement, on every instance that meets the rules.
abbrev pub HasPlan : Schema → Statement → Type 0
HasPlan schema statement = (plan : Plan) × IsLawful plan (meaning_of schema) (known_of schema statement) × IsEquivalent plan statement (meaning_of schema)

-- From the opening proof of a select of the statement, by its conjunctive form with the variables numbered by first occurrence, there is an
-- ordered run of more firings than these.
pub record RunsOn (firings : ℕ) (schema : Schema) (statement : Statement) : Type 0 where
  pub select : Select
  pub query : Query
  pub log : List Firing
  pub end : Proof
  pub of_statement : Contains statement.selects select
  pub form : IsConjunctive (meaning_of schema) select query
  pub numbered : IsNumbered query
  pub run : IsOrderedRun (meaning_of schema) (known_of schema statement) 0 (opening query) log end
  pub long : firings < length log

-- The two texts were read as a schema and a statement, of which this is so.
pub record ReadAs (told : Option Contents) (name query : List ℕ) (P : Schema → Statement → Type 0) : Type 0 where
  pub schema : Schema
  pub statement : Statement
  pub schema_is : SchemaIsRead told name schema
  pub statement_is : QueryIsRead told query schema statement
  pub so : P schema statement

-- Done says that there is a plan, no that there is none for the instances of integers, and undecided that there is a
-- longer run than the firings given.
abbrev pub Says : Status → Option Contents → List ℕ → List ℕ → ℕ → Type 0
Says is.Done told name query firings = ReadAs told name query HasPlan
Says is.No told name query firings = ReadAs told name query HasNoPlan
Says is.Undecided told name query firings = ReadAs told name query (RunsOn firings)
Says _ told name query firings = Unit {0}

-- The two texts were read as a schema and a batch of statements, of which this is so.
pub record ReadAll (told : Option Contents) (name queries : List ℕ) (P : Schema → List Statement → Type 0) : Type 0 where
  pub schema : Schema
  pub statements : List Statement
  pub schema_is : SchemaIsRead told name schema
  pub statements_are : BatchIsRead told queries schema statements
  pub so : P schema statements

-- Each of the statements has a plan.
abbrev pub HavePlans : Schema → List Statement → Type 0
HavePlans schema statements = (statement : Statement) → Contains statements statement → HasPlan schema statement

-- This is so of one of the statements, and each before it has a plan.
pub record ComesTo (P : Schema → Statement → Type 0) (schema : Schema) (statements : List Statement) : Type 0 where
  pub front : List Statement
  pub statement : Statement
  pub rest : List Statement
  pub all : statements ≡ front ++ statement ∷ rest
  pub before : HavePlans schema front
  pub so : P schema statement

-- Done says that each statement has a plan. No says that some statement has none for the instances of integers, and
-- undecided that for some statement there is a longer run than the firings given; each before that one has a plan.
abbrev pub SaysOfBatch : Status → Option Contents → List ℕ → List ℕ → ℕ → Type 0
SaysOfBatch is.Done told name queries firings = ReadAll told name queries HavePlans
SaysOfBatch is.No told name queries firings = ReadAll told name queries (ComesTo HasNoPlan)
SaysOfBatch is.Undecided told name queries firings = ReadAll told name queries (ComesTo (RunsOn firings))
SaysOfBatch _ told name queries firings = Unit {0}

-- The plan is lawful over the known constants and as wide as the statement, and equivalent to it on every instance of
-- integers that meets the rules.
pub record IsRight (schema : Schema) (statement : Statement) (plan : Plan) : Type 0 where
  pub legal : IsLegalOver schema statement plan (known_of schema statement)
  pub equivalent : IsSortedEquivalent plan statement (meaning_of schema)

-- It is not.
abbrev pub IsWrong : Schema → Statement → Plan → Type 0
IsWrong schema statement plan = IsRight schema statement plan → ⊥

-- The query is that of a select of the statement, with its variables numbered by first occurrence, or that of a branch of the plan.
abbrev pub IsTried : Schema → Statement → Plan → Query → Type 0
IsTried schema statement plan query =
    ((select : Select) × Contains statement.selects select × IsConjunctive (meaning_of schema) select query × IsNumbered query)
    ⊎ ((branch : Branch) × Contains plan.branches branch × IsBranchQuery (meaning_of schema) branch query)

-- From a frozen select of the statement or a frozen branch of the plan there is a base run of more firings than these.
pub record FiresOn (firings : ℕ) (schema : Schema) (statement : Statement) (plan : Plan) : Type 0 where
  pub query : Query
  pub log : List Trigger
  pub end : State
  pub tried : IsTried schema statement plan query
  pub run : IsBaseRun schema.rules (opening_state query) log end
  pub long : firings < length log

-- The three texts were read as a schema, a statement and a plan, of which this is so.
pub record ReadWith (told : Option Contents) (name query its : List ℕ) (P : Schema → Statement → Plan → Type 0) : Type 0 where
  pub schema : Schema
  pub statement : Statement
  pub plan : Plan
  pub schema_is : SchemaIsRead told name schema
  pub statement_is : QueryIsRead told query schema statement
  pub plan_is : PlanIsRead told its plan
  pub so : P schema statement plan

-- Done says that the plan is right, no that it is not, and undecided that there is a longer base run than the firings given.
abbrev pub SaysOfPlan : Status → Option Contents → List ℕ → List ℕ → List ℕ → ℕ → Type 0
SaysOfPlan is.Done told name query its firings = ReadWith told name query its IsRight
SaysOfPlan is.No told name query its firings = ReadWith told name query its IsWrong
SaysOfPlan is.Undecided told name query its firings = ReadWith told name query its (FiresOn firings)
SaysOfPlan _ told name query its firings = Unit {0}

-- Nothing is decided: the status is none but done, or that of a stop.
abbrev pub DecidesNothing : Status → Type 0
DecidesNothing is.No = ⊥
DecidesNothing is.Undecided = ⊥
DecidesNothing _ = Unit {0}

-- That is so of the commands that decide statements, of the one that judges a plan, and of those that crawl; what is so of `run` with the
-- rules tested first stands in `Verified`.
abbrev pub SaysOf : Command → Option Contents → Status → Type 0
SaysOf (Explain name query firings search) told status = Says status told name query firings
SaysOf (Run name query firings search workers calls false) told status = Says status told name query firings
SaysOf (Batch name queries firings search workers calls) told status = SaysOfBatch status told name queries firings
SaysOf (Check name query plan firings) told status = SaysOfPlan status told name query plan firings
SaysOf (Crawl name workers calls) told status = DecidesNothing status
SaysOf (Reach name query workers calls) told status = DecidesNothing status
SaysOf _ told status = Unit {0}
