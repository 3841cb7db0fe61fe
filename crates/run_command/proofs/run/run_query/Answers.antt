-- A text is refused, or the statement is answered.
use Rattle.std.proofs.Common.{refl, sym}
use Rattle.source_trait.proofs.LaneSteps.{LanesStay-refl}
use Rattle.run_command.specs.Ends.RunEnds.{refused, read}
use Rattle.run_command.proofs.Results.{rows_of, result_of, with_text}
use Rattle.run_command.proofs.run.run_query.Goals as goal

pub returns-in-Ok-clause-ends : goal.returns-in-Ok-clause-ends
returns-in-Ok-clause-ends g c =
    rw (← c.outside.view_is, ← c.outside-inside.view_is) (read c.in-Ok.schema c.in-Ok.statement c.answer.result c.in-Ok.ensures.schema c.in-Ok.ensures.statement
    (with_text c.in-Ok.schema c.in-Ok.statement c.args.settings.limits.firings c.args.settings.limits.search _ _ _ _ _ _ _ _
    (λ plan entries run text is ran given.
    result_of g.S.Source.seen c.in-Ok.schema c.in-Ok.statement c.args.settings.limits.firings c.args.settings.limits.search plan entries is _
    c.result_names.result.now (sym c.result_names.ensures) run text
    (rows_of g.S.Source.seen c.in-Ok.schema c.args.settings.limits.calls c.args.settings.verify plan _ _ run ran) given)
    c.answer.result (rw (c.as_str.ensures, c.as_str-2.ensures) at c.answer.ensures.ends)))

pub returns-in-Err-clause-ends : goal.returns-in-Err-clause-ends
returns-in-Err-clause-ends g c = rw (← c.outside.view_is, ← c.outside-inside.view_is) (refused c.tell.result (record {
  given = c.in-Err.stop;
  cause = c.in-Err.ensures.cause;
  tells = rw (c.as_str.ensures, c.as_str-2.ensures) at c.tell.ensures.tells;
}) refl refl)

pub returns-in-Err-clause-lanes : goal.returns-in-Err-clause-lanes
returns-in-Err-clause-lanes g c = LanesStay-refl g.S.Source.seen c.args.lanes.now
