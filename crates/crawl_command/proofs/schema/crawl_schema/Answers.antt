-- No schema is read, or the lanes are crawled.
use Rattle.std.proofs.Common.{refl}
use Rattle.source_trait.proofs.LaneSteps.{LanesStay-refl}
use Rattle.crawl_command.specs.Ends.CrawlEnds.{no_schema, stopped, done}
use Rattle.crawl_command.proofs.schema.crawl_schema.Goals as goal

pub returns-in-Err-clause-ends : goal.returns-in-Err-clause-ends
returns-in-Err-clause-ends g c = rw (← c.outside.view_is, ← c.outside-inside.view_is) (no_schema c.tell.result (record {
  given = c.in-Err.stop;
  cause = c.in-Err.ensures.cause;
  tells = rw c.as_str.ensures at c.tell.ensures.tells;
}) refl refl)

pub returns-in-Err-clause-lanes : goal.returns-in-Err-clause-lanes
returns-in-Err-clause-lanes g c = LanesStay-refl g.S.Source.seen c.args.lanes.now

pub returns-in-Ok-deliver_facts-clause-ends : goal.returns-in-Ok-deliver_facts-clause-ends
returns-in-Ok-deliver_facts-clause-ends g c = rw (← c.outside.view_is, ← c.outside-inside.view_is)
    (done c.in-Ok.schema c.in-Ok.ensures.read c.in-Ok-deliver_facts.ensures.delivers refl)

pub returns-clause-ends : goal.returns-clause-ends
returns-clause-ends g c = rw (← c.outside.view_is, ← c.outside-inside.view_is)
    (stopped c.in-Ok.schema c.in-Err-deliver_facts.stop c.tell-in-Err-deliver_facts.result c.in-Ok.ensures.read
    c.in-Err-deliver_facts.ensures.delivers (record {
      given = c.in-Err-deliver_facts.stop;
      cause = refl;
      tells = rw (c.as_slice.ensures, c.as_str.ensures) at c.tell-in-Err-deliver_facts.ensures.tells;
    }))
