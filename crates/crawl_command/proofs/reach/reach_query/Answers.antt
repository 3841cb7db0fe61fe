-- A text is refused, or the lanes are crawled.
use Rattle.std.proofs.Common.{refl}
use Rattle.source_trait.proofs.LaneSteps.{LanesStay-refl}
use Rattle.crawl_command.specs.Reach.ReachEnds.{no_texts, stopped, done}
use Rattle.crawl_command.proofs.reach.reach_query.Goals as goal

pub returns-in-Err-clause-ends : goal.returns-in-Err-clause-ends
returns-in-Err-clause-ends g c = rw (← c.outside.view_is, ← c.outside-inside.view_is) (no_texts c.tell.result (record {
  given = c.in-Err.stop;
  cause = c.in-Err.ensures.cause;
  tells = rw (c.as_str.ensures, c.as_str-2.ensures) at c.tell.ensures.tells;
}) refl refl)

pub returns-in-Err-clause-lanes : goal.returns-in-Err-clause-lanes
returns-in-Err-clause-lanes g c = LanesStay-refl g.S.Source.seen c.args.lanes.now

pub returns-in-Ok-deliver_answers-clause-ends : goal.returns-in-Ok-deliver_answers-clause-ends
returns-in-Ok-deliver_answers-clause-ends g c = rw (← c.outside.view_is, ← c.outside-inside.view_is)
    (done c.in-Ok.texts.0 c.in-Ok.texts.1 c.in-Ok.ensures.schema c.in-Ok.ensures.statement
    c.in-Ok-deliver_answers.ensures.delivers refl)

pub returns-clause-ends : goal.returns-clause-ends
returns-clause-ends g c = rw (← c.outside.view_is, ← c.outside-inside.view_is)
    (stopped c.in-Ok.texts.0 c.in-Ok.texts.1 c.in-Err-deliver_answers.stop c.tell-in-Err-deliver_answers.result
    c.in-Ok.ensures.schema c.in-Ok.ensures.statement c.in-Err-deliver_answers.ensures.delivers (record {
      given = c.in-Err-deliver_answers.stop;
      cause = refl;
      tells = rw (c.as_slice.ensures, c.as_str.ensures, c.as_str-2.ensures) at c.tell-in-Err-deliver_answers.ensures.tells;
    }))
