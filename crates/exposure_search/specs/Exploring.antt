-- What contracts see of the space of a proof, and what a search asks of it.
use Rattle.std.specs.Prelude.{◌≡◌, ◌<◌, ◌+◌, ◌^◌, ℕ, List, [], Bool, length}
use Rattle.meaning.specs.declared.types.Rule.{Rule}
use Rattle.meaning.specs.declared.types.SchemaParts.{SchemaParts}
use Rattle.meaning.specs.declared.types.Trigger.{Trigger}
use Rattle.meaning.specs.declared.types.Firing.{Firing}
use Rattle.meaning.specs.declared.types.Query.{Query}
use Rattle.meaning.specs.declared.types.Val.{Val}
use Rattle.meaning.specs.Values.{Value}
use Rattle.meaning.specs.Search.{AreDistinct}
use Rattle.meaning.specs.Triggers.{State, IsQuiet}
use Rattle.meaning.specs.Runs.{Proof, base_state, IsBaseRun, IsRun}
use Rattle.meaning_laws.specs.Rests.{HasGoalOver, new_labels}
use Rattle.accessible_copy.specs.Known.{known_values}
use Rattle.accessible_copy.specs.Proving.{Proving, log_of}
use Rattle.least_search.specs.declared.space.Move.{Move}
use Rattle.exposure_search.specs.declared.marks.Marks.{Marks}
use Rattle.exposure_search.specs.Tries.{picked, IsRelevantMove, Adds, HasMatchFrom}
use Rattle.exposure_search.specs.Making.{bases_of}
use Rattle.exposure_search.specs.Trials.{IsTrialAlong}
use Rattle.exposure_search.specs.Relevance.{AreRelevant}

-- What contracts see of a space: the schema, the known constants, the state that the proof began with, its base firings and the
-- state after them, the queries and the head of a match, how many firings a run may have, and marks of base facts.
pub record Exploring : Type 0 where
  pub schema : SchemaParts
  pub constants : List Value
  pub start : Proof
  pub log : List Trigger
  pub base : State
  pub queries : List Query
  pub head : List Val
  pub budget : ℕ
  pub marks : Marks

-- The space of a proof.
abbrev pub exploring_of : SchemaParts → Proving → List Query → List Val → ℕ → Marks → Exploring
exploring_of schema proof queries head budget marks = record {
  schema = schema;
  constants = proof.constants;
  start = proof.start;
  log = bases_of (log_of proof);
  base = base_state proof.end;
  queries = queries;
  head = head;
  budget = budget;
  marks = marks;
}

-- How many facts there are.
abbrev pub space_size : Exploring → ℕ
space_size space = length space.base.facts

-- The move is possible at the set, and its fact is relevant.
abbrev pub CanExpose : Exploring → List Bool → Move → Type 0
CanExpose space set move = IsRelevantMove space.schema space.constants space.base.facts space.marks.relevant.items set move

-- The move gains something at the set: a match can rest on its fact, or the fact holds a value that is not known there.
abbrev pub GainsAt : Exploring → List Bool → Move → Type 0
GainsAt space set move =
    Adds (known_values space.constants (picked space.base.facts set)) space.base.facts space.marks.needed.items move.fact

-- The most labels of the states of which a goal is asked: those that a proof can number, and those that one firing gives.
abbrev pub most_labels : List Rule → ℕ
most_labels rules = 2 ^ 32 + new_labels rules

-- Every state at rest over the facts of the set, with no more labels, has a match.
abbrev pub HasGoalAt : Exploring → List Bool → Type 0
HasGoalAt space set = HasGoalOver space.schema space.constants space.queries space.head space.base.next
    (most_labels space.schema.rules) (picked space.base.facts set)

-- Some run of firings from the facts of the set has a match.
abbrev pub HasMatchAt : Exploring → List Bool → Type 0
HasMatchAt space set = HasMatchFrom space.schema space.queries space.head space.base.next (picked space.base.facts set)

-- After the exposures of the path so many firings are due in the copy, one after another.
abbrev pub HasTry : Exploring → List Move → ℕ → Type 0
HasTry space path firings = IsTrialAlong space.schema space.constants space.base path firings

-- Some run from the start has more firings than are allowed.
pub record IsRunBeyond (schema : SchemaParts) (constants : List Value) (start : Proof) (budget : ℕ) : Type 0 where
  pub log : List Firing
  pub end : Proof
  pub run : IsRun schema constants 0 start log end
  pub beyond : budget < length log

abbrev pub HasRunBeyond : Exploring → Type 0
HasRunBeyond space = IsRunBeyond space.schema space.constants space.start space.budget

-- The base firings lead from the start, at which nothing is exposed, to the base state, in which no base trigger is active and
-- no fact stands twice; and the facts on which a match can rest are marked.
pub record IsFounded (space : Exploring) : Type 0 where
  pub none_exposed : space.start.exposed ≡ []
  pub none_copied : space.start.copy ≡ []
  pub run : IsBaseRun space.schema.rules (base_state space.start) space.log space.base
  pub quiet : IsQuiet space.schema.rules space.base
  pub once : AreDistinct space.base.facts
  pub relevant : AreRelevant space.schema space.constants space.base.facts space.base.next space.queries space.head space.marks
