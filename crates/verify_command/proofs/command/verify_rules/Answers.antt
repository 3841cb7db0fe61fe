-- The four ways in which the command ends.
use Rattle.std.proofs.Common.{refl}
use Rattle.source_trait.proofs.LaneSteps.{LanesStay-refl}
use Rattle.verify_command.specs.Ends.VerifyEnds.{no_schema, stopped, cut, done}
use Rattle.verify_command.proofs.command.verify_rules.Goals as goal

pub returns-in-Err-clause-ends : goal.returns-in-Err-clause-ends
returns-in-Err-clause-ends g c = rw (← c.outside.view_is, ← c.outside-inside.view_is) (no_schema c.tell.result (record {
  given = c.in-Err.stop;
  cause = c.in-Err.ensures.cause;
  tells = rw c.as_str.ensures at c.tell.ensures.tells;
}) refl refl)

pub returns-in-Err-clause-lanes : goal.returns-in-Err-clause-lanes
returns-in-Err-clause-lanes g c = LanesStay-refl g.S.Source.seen c.args.lanes.now.items

pub returns-in-Err-first_broken-clause-ends : goal.returns-in-Err-first_broken-clause-ends
returns-in-Err-first_broken-clause-ends g c = rw (← c.outside.view_is, ← c.outside-inside.view_is) (stopped c.in-Ok.schema c.in-Err-first_broken.stop c.tell-in-Err-first_broken.result c.in-Ok.ensures.read
    c.in-Err-first_broken.ensures.verifies c.in-Err-first_broken.ensures.others (record {
      given = c.in-Err-first_broken.stop;
      cause = refl;
      tells = rw (c.as_slice-relations.ensures, c.as_str.ensures) at c.tell-in-Err-first_broken.ensures.tells;
    }) refl)

pub returns-in-Ok-write_found-clause-ends : goal.returns-in-Ok-write_found-clause-ends
returns-in-Ok-write_found-clause-ends g c =
    rw (← c.outside.view_is, ← c.outside-inside.view_is, c.outcome.ensures) (done c.in-Ok.schema c.in-Ok-first_broken.found c.in-Ok.ensures.read c.in-Ok-first_broken.ensures.verifies c.in-Ok-first_broken.ensures.others c.in-Ok-write_found.ensures.whole refl)

pub returns-clause-ends : goal.returns-clause-ends
returns-clause-ends g c = rw (← c.outside.view_is, ← c.outside-inside.view_is) (cut c.in-Ok.schema c.in-Ok-first_broken.found c.tell-in-Err-write_found.result c.in-Ok.ensures.read
    c.in-Ok-first_broken.ensures.verifies c.in-Ok-first_broken.ensures.others c.in-Err-write_found.ensures.part (record {
      given = c.in-Err-write_found.stop;
      cause = c.in-Err-write_found.ensures.cause;
      tells = rw (c.as_slice-relations.ensures, c.as_str.ensures) at c.tell-in-Err-write_found.ensures.tells;
    }))
