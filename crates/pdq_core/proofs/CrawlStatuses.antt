-- The status of a crawl is done, or that of a stop.
use Rattle.std.proofs.Common.{ℕ, List, Result, sym, subst}
use Rattle.source_trait.specs.Asking.{Seen}
use Rattle.source_trait.specs.declared.lanes.Lane.{Lane}
use Rattle.command_io.specs.declared.stop.Stop.{Stop}
use Rattle.command_io.specs.declared.outcome.Outcome.{Outcome}
use Rattle.command_io.specs.Status.{status_of}
use Rattle.command_io.specs.Moments.{Moment}
use Rattle.crawl_command.specs.Ends.{CrawlEnds}
use Rattle.crawl_command.specs.Ends.CrawlEnds.{no_schema, stopped, done as crawled}
use Rattle.crawl_command.specs.Reach.{ReachEnds}
use Rattle.crawl_command.specs.Reach.ReachEnds.{no_texts, stopped as reach_stopped, done as reached}
use Rattle.pdq_core.specs.Runs.{ended}
use Rattle.pdq_core.specs.Statuses.{DecidesNothing}
use Rattle.pdq_core.proofs.Refusals.{IsPlain, plain_says, schema_plain, texts_plain, plain_end, crawled_plain}

stop_decides : (end : Stop) → IsPlain end → DecidesNothing (status_of end)
stop_decides = plain_says DecidesNothing tt tt tt tt tt tt

module _ {S : Type 0} (seen : S → Seen) (name : List ℕ) (calls : ℕ) (before after : Moment) (old new : List (Lane S)) where
  pub crawl_says : (result : Result Outcome Stop) → CrawlEnds seen name calls before after old new result → DecidesNothing (ended result)
  crawl_says result (no_schema end why quiet same) = stop_decides end (plain_end end (schema_plain before.files name _) why)
  crawl_says result (stopped schema why end read delivery told) =
      stop_decides end
      (plain_end end (λ given e. subst IsPlain (sym e) (crawled_plain seen schema calls old new _ _ _ _ why delivery)) told)
  crawl_says result (crawled schema read delivery quiet) = tt

  pub reach_says : (query : List ℕ) (result : Result Outcome Stop) → ReachEnds seen name query calls before after old new result →
      DecidesNothing (ended result)
  reach_says query result (no_texts end why quiet same) = stop_decides end (plain_end end (texts_plain before.files name query _) why)
  reach_says query result (reach_stopped schema statement why end read is delivery told) =
      stop_decides end
      (plain_end end (λ given e. subst IsPlain (sym e) (crawled_plain seen schema calls old new _ _ _ _ why delivery)) told)
  reach_says query result (reached schema statement read is delivery quiet) = tt
