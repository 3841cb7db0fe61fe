-- A text is refused, or the statement is decided and summed up.
use Rattle.std.proofs.Common.{refl}
use Rattle.source_trait.proofs.LaneSteps.{LanesStay-refl}
use Rattle.run_command.specs.declared.world.TheConstants.{FIRINGS, UNITS}
use Rattle.run_command.specs.World.WorldEnds.{refused, read}
use Rattle.run_command.proofs.Results.{summary_of, with_text}
use Rattle.run_command.proofs.world.run_world.Goals as goal

pub returns-in-Ok-clause-ends : goal.returns-in-Ok-clause-ends
returns-in-Ok-clause-ends g c =
    read c.in-Ok.schema c.in-Ok.statement c.answer.result c.in-Ok.ensures.schema c.in-Ok.ensures.statement
    (with_text c.in-Ok.schema c.in-Ok.statement FIRINGS UNITS _ _ _ _ _ _ _ _
    (λ plan entries run text is ran given. summary_of g.S.Source.seen c.in-Ok.schema c.in-Ok.statement FIRINGS UNITS plan entries is _ c.args.size run text ran.rows given)
    c.answer.result c.answer.ensures.ends)

pub returns-in-Err-clause-ends : goal.returns-in-Err-clause-ends
returns-in-Err-clause-ends g c = rw (← c.outputs.view_is) (refused c.tell.result (record {
  given = c.in-Err.stop;
  cause = c.in-Err.ensures.stops;
  tells = c.tell.ensures.tells;
}) refl refl)

pub returns-in-Err-clause-lanes : goal.returns-in-Err-clause-lanes
returns-in-Err-clause-lanes g c = LanesStay-refl g.S.Source.seen c.args.lanes.now
