-- How the command `crawl` ends, and what is so of each way.
use Rattle.std.specs.Prelude.{◌≡◌, ℕ, List, [], Result, Ok, Err}
use Rattle.meaning.specs.declared.types.Fact.{Fact}
use Rattle.access_schema.specs.declared.schema.Schema.{Schema}
use Rattle.source_trait.specs.Asking.{Seen}
use Rattle.source_trait.specs.Causes.{Rose}
use Rattle.source_trait.specs.declared.lanes.Lane.{Lane}
use Rattle.middleware.specs.declared.fault.RunFault.{RunFault}
use Rattle.crawl.specs.Crawling.{Crawls}
use Rattle.fact_lines.specs.Lines.{IsFactsText}
use Rattle.command_io.specs.declared.stop.Stop.{Stop}
use Rattle.command_io.specs.declared.outcome.Outcome.{Outcome}
use Rattle.command_io.specs.declared.outcome.Outcome.TheVariants as outcome
use Rattle.command_io.specs.Inputs.{SchemaIsRead, SchemaStop}
use Rattle.command_io.specs.Moments.{Moment}
use Rattle.command_io.specs.Telling.{StopsFor}
use Rattle.command_io.specs.Executing.{Delivers, stop_of_crawl}

-- A crawl as a command sees it: a fault of it is the stop that it brings.
abbrev pub CrawlsOrStops : {S : Type 0} → (S → Seen) → Schema → ℕ → List (Lane S) → List (Lane S) → Result (List Fact) Stop → Type 0
CrawlsOrStops seen schema cap old new (Ok part) = Crawls seen schema cap old new (Ok part)
CrawlsOrStops seen schema cap old new (Err end) =
    (why : RunFault) × Crawls seen schema cap old new (Err why) × (end ≡ stop_of_crawl why)

-- How `crawl` ends: no schema was read; or the lanes were crawled, with at most so many calls, and standard output took the text of
-- the facts that came, whole or not.
pub data CrawlEnds {S : Type 0} (seen : S → Seen) (schema_name : List ℕ) (calls : ℕ) (before after : Moment) (old new : List (Lane S)) :
    Result Outcome Stop → Type 0 where
  -- no schema was read, no source was touched, and nothing but the line was written
  no_schema : (end : Stop)
      → StopsFor (SchemaStop before.files schema_name (Rose before.file_faults after.file_faults))
      (record { schema = schema_name; query = []; plan = []; relations = [] })
      before.err after.err (Rose before.err_faults after.err_faults) end
      → after.out ≡ before.out → new ≡ old → CrawlEnds seen schema_name calls before after old new (Err end)
  -- the crawl stopped, or the text of the facts was not written whole
  stopped : (schema : Schema) (why end : Stop) → SchemaIsRead before.files schema_name schema
      → Delivers (CrawlsOrStops seen schema calls old new) (IsFactsText schema)
      before.out after.out (Rose before.out_faults after.out_faults) (Err why)
      → StopsFor (λ given. given ≡ why)
      (record { schema = schema_name; query = []; plan = []; relations = schema.relations })
      before.err after.err (Rose before.err_faults after.err_faults) end
      → CrawlEnds seen schema_name calls before after old new (Err end)
  -- the crawl came to its end, the text of the facts was written whole, and nothing was written on standard error
  done : (schema : Schema) → SchemaIsRead before.files schema_name schema
      → Delivers (CrawlsOrStops seen schema calls old new) (IsFactsText schema)
      before.out after.out (Rose before.out_faults after.out_faults) (Ok tt)
      → after.err ≡ before.err → CrawlEnds seen schema_name calls before after old new (Ok outcome.Done)
