-- Trials of one query against others by the chase (Chandra and Merlin 1977; Fagin, Kolaitis, Miller and Popa 2005).
use Rattle.std.specs.Prelude.{◌≡◌, ◌⊎◌, ◌<◌, ◌≤◌, ◌++◌, ℕ, List, [], map, Contains, length, Option, Some, None, slice_get}
use Rattle.meaning.specs.declared.types.SchemaParts.{SchemaParts}
use Rattle.meaning.specs.declared.types.Fact.{Fact}
use Rattle.meaning.specs.declared.types.Query.{Query}
use Rattle.meaning.specs.declared.types.Val.{Val}
use Rattle.meaning.specs.declared.types.Val.TheVariants.{Const}
use Rattle.meaning.specs.declared.types.Ground.{Ground}
use Rattle.meaning.specs.declared.types.Trigger.{Trigger}
use Rattle.meaning.specs.Values.{Value, Row}
use Rattle.meaning.specs.Homomorphisms.{image, renamed}
use Rattle.meaning.specs.Sorts.{AtomsAreSorted}
use Rattle.meaning.specs.Matching.{IsQueryAnswer, GroundsOf, Meets, AnswersQuery}
use Rattle.meaning.specs.Fitting.{QueryFits, QueryHasConstants}
use Rattle.meaning.specs.Triggers.{State, IsQuiet}
use Rattle.meaning.specs.Runs.{IsBaseRun, opening_state, frozen_head}
use Rattle.access_schema.specs.Meaning.{meaning_of}
use Rattle.integer_laws.specs.Claimed.{IsSortedModel}
use Rattle.accessible_copy.specs.Goals.{IsCounted}
use Rattle.no_plan_witness.specs.Texts.{Names, text_under, AreNamesFor}
use Rattle.rule_pass.specs.declared.pass.TheConstants.{HIGHEST_FIRST_LABEL, MOST_FIRINGS}
use Rattle.rule_pass.specs.declared.pass.Stopped.{Stopped}
use Rattle.rule_pass.specs.declared.pass.Stopped.TheVariants.{Ended, Spent as Stops}
use Rattle.rule_pass.specs.States.{SomeActive}
use Rattle.plan_check.specs.declared.chase.Chase.{Chase}
use Rattle.plan_check.specs.declared.trial.Outcome.{Outcome}
use Rattle.plan_check.specs.declared.trial.Outcome.TheVariants as one
use Rattle.plan_check.specs.declared.trial.Trial.{Trial}
use Rattle.plan_check.specs.declared.trial.Tried.{Tried}
use Rattle.plan_check.specs.declared.trial.Tried.TheVariants as all

-- ---- queries

-- A query can be tried where it fits the schema, its variables are counted and few, its constants are known, and those at integer columns
-- are integers.
pub record IsTriable (schema : SchemaParts) (known : List Value) (query : Query) : Type 0 where
  pub fits : QueryFits schema query
  pub constants : QueryHasConstants known query
  pub counted : IsCounted query
  pub few : query.variables ≤ HIGHEST_FIRST_LABEL
  pub sorted : AtomsAreSorted schema query.atoms

-- The query, if there is one, can be tried.
abbrev pub FormIsTriable : SchemaParts → List Value → Option Query → Type 0
FormIsTriable schema known None = Unit {0}
FormIsTriable schema known (Some query) = IsTriable schema known query

-- Each of the queries can be tried.
abbrev pub AreTriable : SchemaParts → List Value → List (Option Query) → Type 0
AreTriable schema known forms = (form : Option Query) → Contains forms form → FormIsTriable schema known form

-- The variables of the query, if there is one, are counted.
abbrev pub FormIsCounted : Option Query → Type 0
FormIsCounted None = Unit {0}
FormIsCounted (Some query) = IsCounted query

-- The variables of each of the queries are counted.
abbrev pub AreCounted : List (Option Query) → Type 0
AreCounted forms = (form : Option Query) → Contains forms form → FormIsCounted form

-- What queries are tried against can be tried itself, each constant of the schema is known, and the firings are no more than a proof may
-- have.
pub record IsTrial (trial : Trial) : Type 0 where
  pub others : AreTriable (meaning_of trial.schema.now) trial.known.now trial.others.now
  pub known : (c : Value) → Contains trial.schema.now.constants c → Contains trial.known.now c
  pub firings : trial.firings ≤ MOST_FIRINGS

-- ---- rows

-- There is a query, and it has the head as a row on the facts.
abbrev pub FormHas : List Ground → List Val → Option Query → Type 0
FormHas facts head None = ⊥
FormHas facts head (Some query) = IsQueryAnswer Const (GroundsOf facts) query head

-- One of the queries has the head as a row on the facts.
abbrev pub SomeHas : List Ground → List (Option Query) → List Val → Type 0
SomeHas facts forms head = (form : Option Query) × Contains forms form × FormHas facts head form

-- There is a query, and the row is an answer of it.
abbrev pub AnswersForm : Option Query → List Fact → Row → Type 0
AnswersForm None facts row = ⊥
AnswersForm (Some query) facts row = AnswersQuery query facts row

-- The row is an answer of one of the queries.
abbrev pub AnswersSome : List (Option Query) → List Fact → Row → Type 0
AnswersSome forms facts row = (form : Option Query) × Contains forms form × AnswersForm form facts row

-- ---- the chase

-- A chase has its log as a base run from the state in which it began. Where it ended nothing is active, and where it was stopped the log has
-- just so many firings, and a further one is active.
abbrev pub StoppedAs : SchemaParts → ℕ → State → List Trigger → Stopped → Type 0
StoppedAs schema firings end log Ended = IsQuiet schema.rules end
StoppedAs schema firings end log Stops = (length log ≡ firings) × SomeActive schema.rules end

pub record IsChase (schema : SchemaParts) (start : State) (firings : ℕ) (chase : Chase) : Type 0 where
  pub run : IsBaseRun schema.rules start chase.log chase.state
  pub stopped : StoppedAs schema firings chase.state chase.log chase.stopped

-- The instance and the row are those of the facts and the head, with the texts of the labels.
pub record IsNamedEnd (schema : SchemaParts) (known : List Value) (facts : List Ground) (head : List Val) (instance : List Fact) (row : Row) : Type 0 where
  pub names : Names
  pub named : AreNamesFor schema known (facts ++ []) names
  pub instance_is : instance ≡ renamed (text_under names) facts
  pub row_is : row ≡ map (image (text_under names)) head

-- ---- trials

-- On every instance that meets the rules the answers of the query are answers of the others.
abbrev pub IsContained : SchemaParts → Query → List (Option Query) → Type 0
IsContained schema query others =
    (facts : List Fact) (row : Row) → Meets facts schema → AnswersQuery query facts row → AnswersSome others facts row

-- The instance is one of integers that meets the rules, and the row is an answer of the query there and of none of the others.
pub record IsSeparated (schema : SchemaParts) (query : Query) (others : List (Option Query)) (facts : List Fact) (row : Row) : Type 0 where
  pub model : IsSortedModel schema facts
  pub answered : AnswersQuery query facts row
  pub not_others : AnswersSome others facts row → ⊥

-- The log is a base run of just so many firings from the frozen query; a further one is active after it, and there none of the others has the
-- frozen head.
pub record IsSpent (schema : SchemaParts) (query : Query) (others : List (Option Query)) (firings : ℕ) (log : List Trigger) : Type 0 where
  pub end : State
  pub run : IsBaseRun schema.rules (opening_state query) log end
  pub count : length log ≡ firings
  pub goes_on : SomeActive schema.rules end
  pub missing : SomeHas end.facts others (frozen_head query) → ⊥

-- What a trial comes to.
abbrev pub IsOutcome : SchemaParts → List (Option Query) → ℕ → Query → Outcome → Type 0
IsOutcome schema others firings query one.Contained = IsContained schema query others
IsOutcome schema others firings query (one.Separated facts row) = IsSeparated schema query others facts row
IsOutcome schema others firings query (one.Spent log) = IsSpent schema query others firings log

-- Where there is no query, there is nothing to try.
abbrev pub FormOutcome : SchemaParts → List (Option Query) → ℕ → Option Query → Outcome → Type 0
FormOutcome schema others firings None outcome = outcome ≡ one.Contained
FormOutcome schema others firings (Some query) outcome = IsOutcome schema others firings query outcome

-- Answers of the queries are answers of the others, on every instance that meets the rules.
abbrev pub AreContained : SchemaParts → List (Option Query) → List (Option Query) → Type 0
AreContained schema forms others =
    (facts : List Fact) (row : Row) → Meets facts schema → AnswersSome forms facts row → AnswersSome others facts row

-- On every instance that meets the rules the answers of the query, if there is one, are answers of the others.
abbrev pub FormIsContained : SchemaParts → List (Option Query) → Option Query → Type 0
FormIsContained schema others form =
    (facts : List Fact) (row : Row) → Meets facts schema → AnswersForm form facts row → AnswersSome others facts row

-- There is a query, and its firings are spent.
abbrev pub FormIsSpent : SchemaParts → List (Option Query) → ℕ → Option Query → List Trigger → Type 0
FormIsSpent schema others firings None log = ⊥
FormIsSpent schema others firings (Some query) log = IsSpent schema query others firings log

-- The trial of the query, if there is one, does not separate: it is contained, or its firings are spent.
abbrev pub FormStays : SchemaParts → List (Option Query) → ℕ → Option Query → Type 0
FormStays schema others firings form =
    FormIsContained schema others form ⊎ ((log : List Trigger) × FormIsSpent schema others firings form log)

-- No trial separates.
abbrev pub NoneSeparates : SchemaParts → List (Option Query) → List (Option Query) → ℕ → Type 0
NoneSeparates schema forms others firings = (form : Option Query) → Contains forms form → FormStays schema others firings form

-- The query of this number is the first that is separated, by this instance and row: no trial before it separates.
pub record IsFirstSeparated (schema : SchemaParts) (forms others : List (Option Query)) (firings : ℕ) (facts : List Fact) (row : Row) : Type 0 where
  pub number : ℕ
  pub query : Query
  pub at : slice_get forms number ≡ Some (Some query)
  pub separated : IsSeparated schema query others facts row
  pub before : (k : ℕ) (form : Option Query) → k < number → slice_get forms k ≡ Some form → FormStays schema others firings form

-- The query of this number is the first whose firings are spent, since those before it are contained; and no trial separates.
pub record IsFirstSpent (schema : SchemaParts) (forms others : List (Option Query)) (firings number : ℕ) (log : List Trigger) : Type 0 where
  pub query : Query
  pub at : slice_get forms number ≡ Some (Some query)
  pub spent : IsSpent schema query others firings log
  pub before : (k : ℕ) (form : Option Query) → k < number → slice_get forms k ≡ Some form → FormIsContained schema others form
  pub none : NoneSeparates schema forms others firings

-- What trials of several queries come to.
abbrev pub AreTried : SchemaParts → List (Option Query) → List (Option Query) → ℕ → Tried → Type 0
AreTried schema forms others firings all.Contained = AreContained schema forms others
AreTried schema forms others firings (all.Separated facts row) = IsFirstSeparated schema forms others firings facts row
AreTried schema forms others firings (all.Spent number log) = IsFirstSpent schema forms others firings number log
