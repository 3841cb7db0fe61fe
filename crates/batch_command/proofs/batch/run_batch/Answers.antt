-- A text is refused, or the statements are answered.
use Rattle.std.proofs.Common.{refl}
use Rattle.source_trait.proofs.LaneSteps.{LanesStay-refl}
use Rattle.batch_command.specs.Ends.BatchEnds.{refused, read}
use Rattle.batch_command.proofs.Results.{with_results}
use Rattle.batch_command.proofs.batch.run_batch.Goals as goal

pub returns-in-Ok-clause-ends : goal.returns-in-Ok-clause-ends
returns-in-Ok-clause-ends g c =
    rw (← c.outside.view_is, ← c.outside-inside.view_is) (read c.in-Ok.schema c.in-Ok.statements c.answer_all.result
    c.in-Ok.ensures.schema c.in-Ok.ensures.statements
    (with_results c.in-Ok.schema c.in-Ok.statements c.args.limits.firings c.args.limits.search g.S.Source.seen c.args.limits.calls
    _ _ _ _ _ c.answer_all.result
    (rw (c.as_str.ensures, c.as_str-2.ensures, c.as_slice.ensures) at c.answer_all.ensures.ends)))

pub returns-in-Err-clause-ends : goal.returns-in-Err-clause-ends
returns-in-Err-clause-ends g c = rw (← c.outside.view_is, ← c.outside-inside.view_is) (refused c.tell.result (record {
  given = c.in-Err.stop;
  cause = c.in-Err.ensures.cause;
  tells = rw (c.as_str.ensures, c.as_str-2.ensures) at c.tell.ensures.tells;
}) refl refl)

pub returns-in-Err-clause-lanes : goal.returns-in-Err-clause-lanes
returns-in-Err-clause-lanes g c = LanesStay-refl g.S.Source.seen c.args.lanes.now
