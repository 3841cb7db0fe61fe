-- How far a crawl of lanes has come.
use Rattle.std.specs.Prelude.{◌≡◌, ◌↔◌, ◌⊎◌, ◌<◌, ◌≤◌, ℕ, List, Contains, length}
use Rattle.meaning.specs.declared.types.Fact.{Fact}
use Rattle.meaning.specs.Values.{Value}
use Rattle.meaning.specs.Instances.{FitsRelation}
use Rattle.access_schema.specs.declared.schema.Schema.{Schema}
use Rattle.access_schema.specs.Meaning.{meaning_of}
use Rattle.source_trait.specs.Asking.{Seen}
use Rattle.source_trait.specs.declared.lanes.Lane.{Lane}
use Rattle.middleware.specs.LaneRounds.{AsksEach, NoneStopped}
use Rattle.crawl_rounds.specs.Log.{requests_of, Log, answers_of, IsGiven, WasGiven, IsCrawlLog, AreOf, IsAmong}
use Rattle.crawl.specs.declared.progress.Progress.{Progress}
use Rattle.crawl.specs.Crawling.{LanesHoldReachable, AreOfMethods}
use Rattle.crawl.specs.Numbers.{BringIntegers}
use Rattle.crawl.specs.Progress.{facts_of}
use Rattle.crawl.specs.Rounding.{FreshWithin}

-- The progress is that of a log of rounds that the lanes were asked: its known values, with the new ones, and its facts.
pub record HasReached {S : Type 0} (seen : S → Seen) (schema : Schema) (cap : ℕ) (progress : Progress) (old new : List (Lane S)) : Type 0 where
  pub log : Log
  pub is : IsCrawlLog (meaning_of schema) schema.constants log
  pub asks : AsksEach seen schema (requests_of (answers_of log)) old new
  pub of_methods : AreOfMethods seen schema (requests_of (answers_of log))
  pub going : 0 < length (requests_of (answers_of log)) → NoneStopped new
  pub made : progress.made ≡ length (requests_of (answers_of log))
  pub rounds : progress.rounds ≡ length log
  pub few : progress.rounds ≤ progress.made
  pub within_cap : progress.made ≤ cap
  pub all : (v : Value) → Contains progress.known.all.keys v ↔ IsGiven schema.constants (answers_of log) v
  pub fresh : (v : Value) → Contains progress.known.fresh.items v → WasGiven schema.constants log v → ⊥
  pub old_ones : (v : Value) → IsGiven schema.constants (answers_of log) v → Contains progress.known.fresh.items v ⊎ WasGiven schema.constants log v
  pub within : FreshWithin progress.known
  pub facts : (fact : Fact) → Contains (facts_of progress) fact ↔ IsAmong (answers_of log) fact
  pub fits : (fact : Fact) → IsAmong (answers_of log) fact → FitsRelation (meaning_of schema) fact.rel fact.row
  pub integers : BringIntegers (meaning_of schema) (answers_of log)
  pub means : (instance : List Fact) → LanesHoldReachable seen schema old instance → AreOf instance (answers_of log)
