-- Proofs of queries, while they are made.
use Rattle.std.specs.Prelude.{◌≡◌, ◌≤◌, ℕ, List, Contains, length}
use Rattle.meaning.specs.declared.types.SchemaParts.{SchemaParts}
use Rattle.meaning.specs.declared.types.Query.{Query}
use Rattle.meaning.specs.declared.types.Ground.{Ground}
use Rattle.meaning.specs.declared.types.Firing.{Firing}
use Rattle.meaning.specs.declared.types.Firing.TheVariants.{Expose}
use Rattle.meaning.specs.Values.{Value}
use Rattle.meaning.specs.Sorts.{AtomsAreSorted}
use Rattle.meaning.specs.Runs.{Proof, last_part}
use Rattle.meaning.specs.Fitting.{QueryFits, QueryHasConstants}
use Rattle.rule_pass.specs.declared.pass.TheConstants.{HIGHEST_FIRST_LABEL}
use Rattle.accessible_copy.specs.Proving.{Proving, IsProofOf, IsOrdered, log_of}
use Rattle.accessible_copy.specs.Listing.{CanFire}
use Rattle.accessible_copy.specs.Goals.{IsCounted}

-- A query can be searched where it fits the schema, its variables are counted and few, its constants are known, and those at integer
-- columns are integers.
pub record IsSearchable (schema : SchemaParts) (known : List Value) (query : Query) : Type 0 where
  pub fits : QueryFits schema query
  pub constants : QueryHasConstants known query
  pub counted : IsCounted query
  pub few : query.variables ≤ HIGHEST_FIRST_LABEL
  pub sorted : AtomsAreSorted schema query.atoms

-- Queries can be searched where each can.
abbrev pub AreSearchable : SchemaParts → List Value → List Query → Type 0
AreSearchable schema known queries = (query : Query) → Contains queries query → IsSearchable schema known query

-- A proof is that of its log, which is an ordered run from the start, with these known constants and at most so many firings: a copy
-- firing comes only where no exposure is active.
pub record IsSearch (schema : SchemaParts) (firings : ℕ) (start : Proof) (known : List Value) (proof : Proving) : Type 0 where
  pub run : IsProofOf schema proof
  pub begun : proof.start ≡ start
  pub constants : proof.constants ≡ known
  pub ordered : IsOrdered schema proof
  pub few : length proof.entries ≤ firings

-- The firing is an active exposure.
abbrev pub IsExposure : SchemaParts → Proving → Firing → Type 0
IsExposure schema proof firing = (number : ℕ) × (fact : Ground) × (firing ≡ Expose number fact) × CanFire schema proof number fact

-- Exposures alone were made, so that the base facts stay.
pub record Exposes (schema : SchemaParts) (firings : ℕ) (old new : Proving) : Type 0 where
  pub search : IsSearch schema firings old.start old.constants new
  pub base : new.end.base ≡ old.end.base
  pub part : last_part 0 (log_of new) ≤ 1
  pub more : (fact : Ground) → Contains old.end.exposed fact → Contains new.end.exposed fact
  pub longer : length old.entries ≤ length new.entries
