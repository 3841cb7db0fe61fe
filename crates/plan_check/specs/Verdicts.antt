-- What is found of a plan for a statement.
use Rattle.std.specs.Prelude.{◌≡◌, ◌⊎◌, ◌<◌, ℕ, List, All, Contains, length, Option, Some, slice_get}
use Rattle.std.specs.List.{AllZip}
use Rattle.meaning.specs.declared.types.SchemaParts.{SchemaParts}
use Rattle.meaning.specs.declared.types.Fact.{Fact}
use Rattle.meaning.specs.declared.types.Query.{Query}
use Rattle.meaning.specs.declared.types.Branch.{Branch}
use Rattle.meaning.specs.declared.types.Plan.{Plan}
use Rattle.meaning.specs.declared.types.Select.{Select as SelectOf}
use Rattle.meaning.specs.declared.types.Statement.{Statement}
use Rattle.meaning.specs.declared.types.Trigger.{Trigger}
use Rattle.meaning.specs.Values.{Value, Row}
use Rattle.meaning.specs.Answers.{Answers, AnswersSelect}
use Rattle.meaning.specs.Plans.{IsLawful}
use Rattle.meaning.specs.Rows.{IsRow, IsBranchRow}
use Rattle.meaning.specs.Claims.{IsModel}
use Rattle.meaning.specs.Conjunctive.{IsConjunctive}
use Rattle.meaning.specs.Judge.{IsBranchQuery}
use Rattle.integer_laws.specs.Claimed.{IsSortedModel, IsSortedEquivalent}
use Rattle.access_schema.specs.declared.schema.Schema.{Schema}
use Rattle.access_schema.specs.Meaning.{meaning_of}
use Rattle.access_schema.specs.Lists.{once_after}
use Rattle.sql_select.specs.Known.{literals_in}
use Rattle.sql_conjunctive.specs.Form.{IsNumbered}
use Rattle.sql_conjunctive.specs.Queries.{IsSelectForm}
use Rattle.plan_form.specs.declared.fault.PlanFault.{PlanFault}
use Rattle.plan_form.specs.declared.fault.PlanFaultKind.TheVariants.{WrongWidth}
use Rattle.plan_form.specs.Faults.{IsFirstFault}
use Rattle.findings.specs.declared.verdict.Side.{Side}
use Rattle.findings.specs.declared.verdict.Side.TheVariants as side
use Rattle.findings.specs.declared.verdict.Verdict.{Verdict}
use Rattle.findings.specs.declared.verdict.Verdict.TheVariants as verdict
use Rattle.plan_check.specs.declared.trial.Tried.{Tried}
use Rattle.plan_check.specs.declared.trial.Tried.TheVariants as all
use Rattle.plan_check.specs.Forms.{IsBranchForm}
use Rattle.plan_check.specs.Trials.{IsSpent, AreContained, NoneSeparates, IsFirstSeparated, IsFirstSpent}

-- ---- legal plans

-- The known constants: those of the schema, which hold those of its rules, and those of the statement.
abbrev pub known_of : Schema → Statement → List Value
known_of schema statement = once_after schema.constants (literals_in statement.selects)

-- Each select has as many items as the plan is wide.
abbrev pub IsAsWide : Plan → Statement → Type 0
IsAsWide plan statement = All (λ select. length select.items ≡ plan.width) statement.selects

-- The plan is lawful over the constants and as wide as the statement.
pub record IsLegalOver (schema : Schema) (statement : Statement) (plan : Plan) (known : List Value) : Type 0 where
  pub lawful : IsLawful plan (meaning_of schema) known
  pub wide : IsAsWide plan statement

-- The fault of a plan that is not as wide as the statement.
abbrev pub wrong_width_fault : PlanFault
wrong_width_fault = record { branch = 0; step = 0; place = 0; kind = WrongWidth }

-- The fault is the first one of a plan that is not lawful over the constants, or that a lawful plan is not as wide as the statement.
pub data IsIllegalOver (schema : Schema) (statement : Statement) (plan : Plan) (known : List Value) (fault : PlanFault) : Type 0 where
  unlawful : (IsLawful plan (meaning_of schema) known → ⊥) → IsFirstFault plan (meaning_of schema) known fault →
      IsIllegalOver schema statement plan known fault
  other_width : IsLawful plan (meaning_of schema) known → (IsAsWide plan statement → ⊥) → fault ≡ wrong_width_fault →
      IsIllegalOver schema statement plan known fault

-- ---- verdicts

-- The instance is one of integers that meets the rules, and the row is an answer of the select of that number there and no row of the plan.
pub record IsLost (schema : SchemaParts) (statement : Statement) (plan : Plan) (number : ℕ) (facts : List Fact) (row : Row) : Type 0 where
  pub select : SelectOf
  pub at : slice_get statement.selects number ≡ Some select
  pub model : IsSortedModel schema facts
  pub answered : AnswersSelect select facts row
  pub no_row : IsRow schema plan facts row → ⊥

-- The instance is one of integers that meets the rules, and the row is a row of the branch of that number there and no answer of the statement.
pub record IsAdded (schema : SchemaParts) (statement : Statement) (plan : Plan) (number : ℕ) (facts : List Fact) (row : Row) : Type 0 where
  pub branch : Branch
  pub at : slice_get plan.branches number ≡ Some branch
  pub model : IsSortedModel schema facts
  pub a_row : IsBranchRow schema branch facts row
  pub not_answered : Answers statement facts row → ⊥

-- The firings for the select of that number are spent: the log is a base run of just so many firings from the frozen conjunctive form of the
-- select, whose variables are numbered by first occurrence; a further firing is active after it, and there no query of a branch of the plan has
-- the frozen head.
pub record IsSelectSpent (schema : Schema) (statement : Statement) (plan : Plan) (firings number : ℕ) (log : List Trigger) : Type 0 where
  pub select : SelectOf
  pub query : Query
  pub queries : List (Option Query)
  pub at : slice_get statement.selects number ≡ Some select
  pub form : IsConjunctive (meaning_of schema) select query
  pub numbered : IsNumbered query
  pub are : AllZip (IsBranchForm (meaning_of schema)) plan.branches queries
  pub spent : IsSpent (meaning_of schema) query queries firings log

-- The firings for the branch of that number are spent: the same from the frozen branch, where no query of a select has the frozen head.
pub record IsBranchSpent (schema : Schema) (statement : Statement) (plan : Plan) (firings number : ℕ) (log : List Trigger) : Type 0 where
  pub branch : Branch
  pub query : Query
  pub queries : List (Option Query)
  pub at : slice_get plan.branches number ≡ Some branch
  pub form : IsBranchQuery (meaning_of schema) branch query
  pub are : AllZip (IsSelectForm schema) statement.selects queries
  pub spent : IsSpent (meaning_of schema) query queries firings log

-- The firings for a side are spent.
abbrev pub IsUndecided : Schema → Statement → Plan → ℕ → Side → List Trigger → Type 0
IsUndecided schema statement plan firings (side.Select number) log = IsSelectSpent schema statement plan firings number log
IsUndecided schema statement plan firings (side.Branch number) log = IsBranchSpent schema statement plan firings number log

-- On every instance that meets the rules the answers of the select are rows of the plan.
abbrev pub GivesSelect : SchemaParts → Plan → SelectOf → Type 0
GivesSelect schema plan select = (facts : List Fact) (row : Row) → IsModel schema facts → AnswersSelect select facts row → IsRow schema plan facts row

-- On every instance of integers that meets the rules the rows of the branch are answers of the statement.
abbrev pub AnswersAlone : SchemaParts → Statement → Branch → Type 0
AnswersAlone schema statement branch = (facts : List Fact) (row : Row) → IsSortedModel schema facts → IsBranchRow schema branch facts row → Answers statement facts row

-- The trial of the select of that number does not separate: the plan gives the select, or the firings for it are spent.
abbrev pub IsKept : Schema → Statement → Plan → ℕ → ℕ → SelectOf → Type 0
IsKept schema statement plan firings number select =
    GivesSelect (meaning_of schema) plan select ⊎ ((log : List Trigger) × IsSelectSpent schema statement plan firings number log)

-- The trial of the branch of that number does not separate: the branch gives answers alone, or the firings for it are spent.
abbrev pub IsWithin : Schema → Statement → Plan → ℕ → ℕ → Branch → Type 0
IsWithin schema statement plan firings number branch =
    AnswersAlone (meaning_of schema) statement branch ⊎ ((log : List Trigger) × IsBranchSpent schema statement plan firings number log)

-- No trial of a select separates.
abbrev pub NoneLost : Schema → Statement → Plan → ℕ → Type 0
NoneLost schema statement plan firings = (number : ℕ) (select : SelectOf) → slice_get statement.selects number ≡ Some select →
    IsKept schema statement plan firings number select

-- No trial of a select before that number separates.
abbrev pub NoneLostBefore : Schema → Statement → Plan → ℕ → ℕ → Type 0
NoneLostBefore schema statement plan firings number = (k : ℕ) (select : SelectOf) → k < number → slice_get statement.selects k ≡ Some select →
    IsKept schema statement plan firings k select

-- No trial of a branch separates.
abbrev pub NoneAdded : Schema → Statement → Plan → ℕ → Type 0
NoneAdded schema statement plan firings = (number : ℕ) (branch : Branch) → slice_get plan.branches number ≡ Some branch →
    IsWithin schema statement plan firings number branch

-- No trial of a branch before that number separates.
abbrev pub NoneAddedBefore : Schema → Statement → Plan → ℕ → ℕ → Type 0
NoneAddedBefore schema statement plan firings number = (k : ℕ) (branch : Branch) → k < number → slice_get plan.branches k ≡ Some branch →
    IsWithin schema statement plan firings k branch

-- The trials before that of the side, first of the selects and then of the branches, show that all is contained.
abbrev pub IsShownBefore : Schema → Statement → Plan → Side → Type 0
IsShownBefore schema statement plan (side.Select number) =
    (k : ℕ) (select : SelectOf) → k < number → slice_get statement.selects k ≡ Some select → GivesSelect (meaning_of schema) plan select
IsShownBefore schema statement plan (side.Branch number) =
    ((select : SelectOf) → Contains statement.selects select → GivesSelect (meaning_of schema) plan select)
    × ((k : ℕ) (branch : Branch) → k < number → slice_get plan.branches k ≡ Some branch → AnswersAlone (meaning_of schema) statement branch)

-- The verdict is right.
pub data IsVerdict (schema : Schema) (statement : Statement) (plan : Plan) (firings : ℕ) : Verdict → Type 0 where
  -- the plan is lawful over the known constants, and its rows are the statement's answers on every instance of integers that meets the rules
  equivalent : IsLegalOver schema statement plan (known_of schema statement) → IsSortedEquivalent plan statement (meaning_of schema) →
      IsVerdict schema statement plan firings verdict.Equivalent
  -- the plan is not lawful, or not as wide as the statement
  illegal : (fault : PlanFault) → IsIllegalOver schema statement plan (known_of schema statement) fault →
      IsVerdict schema statement plan firings (verdict.Illegal fault)
  -- the plan loses a row of a select, and no trial of a select before it separates
  loses : (number : ℕ) (facts : List Fact) (row : Row) → IsLegalOver schema statement plan (known_of schema statement) →
      NoneLostBefore schema statement plan firings number → IsLost (meaning_of schema) statement plan number facts row →
      IsVerdict schema statement plan firings (verdict.Loses facts row)
  -- the plan adds a row by a branch, and no trial of a select separates, nor one of a branch before it
  adds : (number : ℕ) (facts : List Fact) (row : Row) → IsLegalOver schema statement plan (known_of schema statement) →
      NoneLost schema statement plan firings → NoneAddedBefore schema statement plan firings number →
      IsAdded (meaning_of schema) statement plan number facts row → IsVerdict schema statement plan firings (verdict.Adds facts row)
  -- no trial shows that the plan loses or adds a row, and this is the first whose firings are spent
  undecided : (tried : Side) (log : List Trigger) → IsLegalOver schema statement plan (known_of schema statement) →
      NoneLost schema statement plan firings → NoneAdded schema statement plan firings → IsShownBefore schema statement plan tried →
      IsUndecided schema statement plan firings tried log → IsVerdict schema statement plan firings (verdict.Undecided tried log)

-- ---- conclusions

-- The verdict of the trials of selects and of branches.
abbrev pub verdict_of : Tried → Tried → Verdict
verdict_of (all.Separated facts row) branches = verdict.Loses facts row
verdict_of all.Contained (all.Separated facts row) = verdict.Adds facts row
verdict_of all.Contained all.Contained = verdict.Equivalent
verdict_of all.Contained (all.Spent number log) = verdict.Undecided (side.Branch number) log
verdict_of (all.Spent number log) (all.Separated facts row) = verdict.Adds facts row
verdict_of (all.Spent number log) all.Contained = verdict.Undecided (side.Select number) log
verdict_of (all.Spent number log) (all.Spent other its) = verdict.Undecided (side.Select number) log

-- What the trials of the queries of selects and of branches say.
pub data IsConclusion (schema : SchemaParts) (selects branches : List (Option Query)) (firings : ℕ) : Verdict → Type 0 where
  same : AreContained schema selects branches → AreContained schema branches selects →
      IsConclusion schema selects branches firings verdict.Equivalent
  lost : (facts : List Fact) (row : Row) → IsFirstSeparated schema selects branches firings facts row →
      IsConclusion schema selects branches firings (verdict.Loses facts row)
  added : (facts : List Fact) (row : Row) → NoneSeparates schema selects branches firings → IsFirstSeparated schema branches selects firings facts row →
      IsConclusion schema selects branches firings (verdict.Adds facts row)
  select_spent : (number : ℕ) (log : List Trigger) → IsFirstSpent schema selects branches firings number log →
      NoneSeparates schema branches selects firings → IsConclusion schema selects branches firings (verdict.Undecided (side.Select number) log)
  branch_spent : (number : ℕ) (log : List Trigger) → AreContained schema selects branches →
      IsFirstSpent schema branches selects firings number log → IsConclusion schema selects branches firings (verdict.Undecided (side.Branch number) log)
