-- Proofs whose logs are base firings and the exposures behind them.
use Rattle.std.specs.Prelude.{◌≡◌, ◌⊎◌, ◌<◌, ◌≤◌, ◌^◌, ℕ, List, [], ◌∷◌, ◌++◌, Contains, Bool, length, map, slice_get, slice_index_or, Some}
use Rattle.meaning.specs.declared.types.SchemaParts.{SchemaParts}
use Rattle.meaning.specs.declared.types.Method.{Method}
use Rattle.meaning.specs.declared.types.Ground.{Ground}
use Rattle.meaning.specs.declared.types.Trigger.{Trigger}
use Rattle.meaning.specs.declared.types.Firing.{Firing}
use Rattle.meaning.specs.declared.types.Firing.TheVariants.{Base, Copy, Expose}
use Rattle.meaning.specs.declared.types.Query.{Query}
use Rattle.meaning.specs.declared.types.Atom.{Atom}
use Rattle.meaning.specs.declared.types.Rule.{Rule}
use Rattle.meaning.specs.declared.types.Val.{Val}
use Rattle.meaning.specs.Triggers.{State, IsQuiet}
use Rattle.meaning.specs.Runs.{base_state, copy_state, IsBaseQuiet, IsActiveExposure}
use Rattle.meaning.specs.Extract.{Exposure}
use Rattle.rule_pass.specs.States.{SomeActive}
use Rattle.rule_pass.specs.declared.pass.TheConstants.{MOST_FIRINGS}
use Rattle.accessible_copy.specs.declared.entry.Exposed.{Exposed}
use Rattle.accessible_copy.specs.Proving.{Proving, IsProofOf, log_of}
use Rattle.accessible_copy.specs.Goals.{IsCounted}
use Rattle.accessible_copy.specs.Methods.{IsMethodIndex}
use Rattle.accessible_copy.specs.Rounds.{exposure_of}
use Rattle.least_search.specs.declared.space.Move.{Move}
use Rattle.exposure_search.specs.declared.marks.Marks.{Marks}
use Rattle.exposure_search.specs.Tries.{IsMarked}
use Rattle.exposure_search.specs.Relevance.{AreRelevant}

-- The triggers of the base firings of a log.
abbrev pub bases_of : List Firing → List Trigger
bases_of [] = []
bases_of (Base trigger ∷ log) = trigger ∷ bases_of log
bases_of (Copy trigger ∷ log) = bases_of log
bases_of (Expose number fact ∷ log) = bases_of log

-- The log has base firings alone, and no base trigger is active.
pub record IsBaseProof (schema : SchemaParts) (proof : Proving) : Type 0 where
  pub run : IsProofOf schema proof
  pub bases : List Trigger
  pub log : log_of proof ≡ map Base bases
  pub quiet : IsBaseQuiet schema proof.end

-- The log has base firings and then exposures alone, and no base trigger is active.
pub record OnlyExposes (schema : SchemaParts) (proof : Proving) : Type 0 where
  pub run : IsProofOf schema proof
  pub log : log_of proof ≡ map Base (bases_of (log_of proof)) ++ map exposure_of proof.exposed
  pub quiet : IsBaseQuiet schema proof.end

-- The proof can be visited: these are its base facts and the methods of each relation, so many base firings made the facts, the
-- variables of each query are counted, the budget is one that a pass may have, and what a match can rest on is marked.
pub record IsReady (schema : SchemaParts) (proof : Proving) (facts : List Ground) (methods : List (List ℕ)) (bases : ℕ) (queries : List Query)
    (head : List Val) (budget : ℕ) (marks : Marks) : Type 0 where
  pub exposes : OnlyExposes schema proof
  pub facts_are : facts ≡ proof.end.base
  pub methods_are : IsMethodIndex schema.methods methods
  pub bases_are : bases ≡ length (bases_of (log_of proof))
  pub counted : (query : Query) → Contains queries query → IsCounted query
  pub few : length queries ≤ 2 ^ 32
  pub low : budget ≤ MOST_FIRINGS
  pub relevant : AreRelevant schema proof.constants proof.end.base proof.end.next queries head marks

-- Both proofs begin alike, and their base firings are the same.
pub record SameBase (old new : Proving) : Type 0 where
  pub constants : new.constants ≡ old.constants
  pub start : new.start ≡ old.start
  pub bases : bases_of (log_of new) ≡ bases_of (log_of old)
  pub base : base_state new.end ≡ base_state old.end

-- The log has more firings than the budget, or so many and a copy trigger is active.
abbrev pub GoesBeyond : SchemaParts → ℕ → Proving → Type 0
GoesBeyond schema budget proof =
    (budget < length proof.entries)
    ⊎ ((budget ≤ length proof.entries) × SomeActive schema.rules (copy_state proof.end))

-- The base fact with that number.
abbrev pub fact_at : List Ground → ℕ → Ground
fact_at base number = slice_index_or base number (record { rel = 0; vals = [] })

-- What a move exposes.
abbrev pub made_by : List Ground → Move → Exposed
made_by base move = record { method = move.method; fact = fact_at base move.fact }

-- What moves expose, in order.
abbrev pub all_made : List Ground → List Move → List Exposed
all_made base moves = map (made_by base) moves

-- The exposed fact and the method's number are those of the exposure.
abbrev pub IsExposedBy : SchemaParts → Exposed → Exposure → Type 0
IsExposedBy schema exposed exposure =
    (slice_get schema.methods exposed.method ≡ Some exposure.method) × (exposed.fact ≡ exposure.fact)

-- The move stands for an exposure that is active in the proof, at its cost.
pub record IsActiveMove (schema : SchemaParts) (proof : Proving) (move : Move) : Type 0 where
  pub fact : Ground
  pub of : Method
  pub at : slice_get proof.end.base move.fact ≡ Some fact
  pub active : IsActiveExposure schema proof.constants proof.end move.method fact of
  pub cost : move.cost ≡ of.cost

-- One of the moves adds the same fact and costs no more.
abbrev pub IsServed : List Move → Move → Type 0
IsServed moves move = (other : Move) × Contains moves other × (other.fact ≡ move.fact) × (other.cost ≤ move.cost)

-- No fact is one of the relation.
abbrev pub IsMissing : List Ground → ℕ → Type 0
IsMissing facts rel = (fact : Ground) → Contains facts fact → fact.rel ≡ rel → ⊥

-- Each marked rule has a body atom of a relation without facts.
abbrev pub CannotMake : List Rule → List Bool → List Ground → Type 0
CannotMake rules makers facts =
    (number : ℕ) (rule : Rule) → slice_get rules number ≡ Some rule → IsMarked makers number →
    (atom : Atom) × Contains rule.body atom × IsMissing facts atom.rel

-- Nothing is active, or no marked rule can fire.
abbrev pub IsStill : List Rule → List Bool → State → Type 0
IsStill rules makers state = IsQuiet rules state ⊎ CannotMake rules makers state.facts
