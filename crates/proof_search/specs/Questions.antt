-- What is asked of a query, and what answers it.
use Rattle.std.specs.Prelude.{◌≡◌, ◌+◌, ◌*◌, ◌≤◌, ◌^◌, ℕ, List, Contains, length}
use Rattle.meaning.specs.declared.types.Branch.{Branch}
use Rattle.meaning.specs.declared.types.Query.{Query}
use Rattle.meaning.specs.declared.types.Val.TheVariants.{Const}
use Rattle.meaning.specs.Matching.{MeetsAll, GroundsOf}
use Rattle.meaning.specs.Fitting.{IsKept}
use Rattle.meaning.specs.Runs.{Proof, NoExposure, opening, frozen_head}
use Rattle.access_schema.specs.declared.limits.TheConstants.{MOST_CONSTANTS}
use Rattle.access_schema.specs.Meaning.{meaning_of}
use Rattle.sql_select.specs.declared.limits.TheConstants.{MOST_ITEMS, MOST_CONDITIONS, MOST_SELECTS}
use Rattle.rule_pass.specs.declared.pass.TheConstants.{MOST_FIRINGS}
use Rattle.integer_laws.specs.Sorted.{ProofIsSorted}
use Rattle.accessible_copy.specs.Proving.{Proving}
use Rattle.exposure_search.specs.Exploring.{Exploring}
use Rattle.findings.specs.declared.refutation.Witness.{Witness}
use Rattle.proof_search.specs.declared.outcome.Choice.{Choice}
use Rattle.proof_search.specs.declared.outcome.QueryOutcome.{QueryOutcome}
use Rattle.proof_search.specs.declared.outcome.First.{First}
use Rattle.proof_search.specs.declared.outcome.Outcome.{Outcome}
use Rattle.proof_search.specs.declared.question.Question.{Question}
use Rattle.proof_search.specs.declared.question.Questions.{Questions}
use Rattle.proof_search.specs.Searches.{AreSearchable, IsSearch}
use Rattle.proof_search.specs.Branches.{IsQueryBranch, IsRefutingPair}
use Rattle.proof_search.specs.Choices.{IsSpaceOf, IsChoice}
use Rattle.proof_search.specs.Outcomes.{IsFirst, IsQueryOutcome, IsOutcome}

-- The most known constants: those of a schema, and those of the items and of both sides of the conditions of a statement's selects.
abbrev pub MOST_KNOWN : ℕ
MOST_KNOWN = MOST_CONSTANTS + MOST_SELECTS * (MOST_ITEMS + 2 * MOST_CONDITIONS)

-- The query is one of the queries, which can be searched and are few. Each constant of the schema is known, the known ones are few, the
-- head is the query's frozen one, and the firings are no more than a proof may have.
pub record IsQuestion (question : Question) : Type 0 where
  pub queries : AreSearchable (meaning_of question.schema.now) question.known.now question.queries.now
  pub few : length question.queries.now ≤ 2 ^ 32
  pub among : Contains question.queries.now question.query.now
  pub known : (c : List ℕ) → Contains question.schema.now.constants c → Contains question.known.now c
  pub few_known : length question.known.now ≤ MOST_KNOWN
  pub head : question.head.now ≡ frozen_head question.query.now
  pub firings : question.firings ≤ MOST_FIRINGS

-- The proof is a search of the query.
abbrev pub IsSearchFor : Question → Proving → Type 0
IsSearchFor question proof = IsSearch (meaning_of question.schema.now) question.firings (opening question.query.now) question.known.now proof

-- The branch is one for the query, among the queries.
abbrev pub IsBranchOn : Question → Branch → Type 0
IsBranchOn question branch = IsQueryBranch (meaning_of question.schema.now) question.known.now question.queries.now question.query.now branch

-- The pair refutes each statement for which the queries stand.
abbrev pub IsRefutedOn : Question → Witness → Type 0
IsRefutedOn question pair = IsRefutingPair (meaning_of question.schema.now) question.known.now question.queries.now question.query.now pair

-- The proof has what runs of the query keep and is sorted, its base facts meet the rules, and each base fact that can be exposed is.
pub record IsExhausted (question : Question) (proof : Proof) : Type 0 where
  pub kept : IsKept (meaning_of question.schema.now) question.known.now question.query.now proof
  pub met : MeetsAll Const (GroundsOf proof.base) question.schema.now.rules
  pub sorted : ProofIsSorted (meaning_of question.schema.now) proof
  pub exposures : NoExposure (meaning_of question.schema.now) question.known.now proof

-- The space is that of the query's base firings, with the known constants.
pub record IsSpaceOn (question : Question) (space : Exploring) : Type 0 where
  pub of_query : IsSpaceOf (meaning_of question.schema.now) question.queries.now question.query.now question.firings space
  pub constants : space.constants ≡ question.known.now

-- The choice is one for the query, after so many units.
abbrev pub IsChoiceOn : Question → ℕ → Choice → Type 0
IsChoiceOn question search choice = IsChoice (meaning_of question.schema.now) question.known.now question.queries.now question.firings search question.query.now choice

-- What the proof of the query comes to.
abbrev pub IsOutcomeOn : Question → QueryOutcome → Type 0
IsOutcomeOn question outcome = IsQueryOutcome (meaning_of question.schema.now) question.known.now question.queries.now question.firings question.query.now outcome

-- ---- what is asked of all queries

-- The queries can be searched and are few, each constant of the schema is known, the known ones are few, and the firings are no more than
-- a proof may have.
pub record AreQuestions (questions : Questions) : Type 0 where
  pub queries : AreSearchable (meaning_of questions.schema.now) questions.known.now questions.queries.now
  pub few : length questions.queries.now ≤ 2 ^ 32
  pub known : (c : List ℕ) → Contains questions.schema.now.constants c → Contains questions.known.now c
  pub few_known : length questions.known.now ≤ MOST_KNOWN
  pub firings : questions.firings ≤ MOST_FIRINGS

-- The branch that is found first is one for the query.
abbrev pub IsFirstFor : Questions → Query → First → Type 0
IsFirstFor questions query first = IsFirst (meaning_of questions.schema.now) questions.known.now questions.queries.now query first

-- The choice is one for the query, after so many units.
abbrev pub IsChoiceFor : Questions → ℕ → Query → Choice → Type 0
IsChoiceFor questions search query choice = IsChoice (meaning_of questions.schema.now) questions.known.now questions.queries.now questions.firings search query choice

-- What the proof of the query comes to.
abbrev pub IsOutcomeFor : Questions → Query → QueryOutcome → Type 0
IsOutcomeFor questions query outcome = IsQueryOutcome (meaning_of questions.schema.now) questions.known.now questions.queries.now questions.firings query outcome

-- What the proofs of the queries come to.
abbrev pub AreOutcomesFor : Questions → Outcome → Type 0
AreOutcomesFor questions outcome = IsOutcome (meaning_of questions.schema.now) questions.known.now questions.queries.now questions.firings outcome
