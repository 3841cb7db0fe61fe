-- A text is refused, or the plan is carried out.
use Rattle.std.proofs.Common.{◌≤◌, refl, arith}
use Rattle.source_trait.proofs.LaneSteps.{LanesStay-refl}
use Rattle.command_io.proofs.Later.{rose_between, plan_later}
use Rattle.exec_command.specs.Ends.ExecEnds.{no_schema, no_plan, read}
use Rattle.exec_command.proofs.exec.exec_plan.Goals as goal

pub returns-in-Err-clause-ends : goal.returns-in-Err-clause-ends
returns-in-Err-clause-ends g c = rw (← c.outside.view_is, ← c.outside-inside.view_is) (no_schema c.tell.result (record {
  given = c.in-Err.stop;
  cause = c.in-Err.ensures.cause;
  tells = rw (c.as_str.ensures, c.as_str-2.ensures) at c.tell.ensures.tells;
}) refl refl)

pub returns-in-Err-clause-lanes : goal.returns-in-Err-clause-lanes
returns-in-Err-clause-lanes g c = LanesStay-refl g.S.Source.seen c.args.lanes.now

pub returns-in-Err-plan_of_file-clause-ends : goal.returns-in-Err-plan_of_file-clause-ends
returns-in-Err-plan_of_file-clause-ends g c =
    let begun : g.F.Files.faults _ ≤ g.F.Files.faults c.schema_of.new.files = c.schema_of.ensures.later in
    rw (← c.outside.view_is, ← c.outside-inside.view_is) (no_plan c.in-Ok.schema c.tell-in-Err-plan_of_file.result c.in-Ok.ensures.read (record {
      given = c.in-Err-plan_of_file.stop;
      cause = plan_later _ _ _ _ c.in-Err-plan_of_file.stop (rose_between _ _ _ _ begun (omega arith)) (rw c.schema_of.ensures.same at c.in-Err-plan_of_file.ensures.cause);
      tells = rw (c.as_str.ensures, c.as_str-2.ensures) at c.tell-in-Err-plan_of_file.ensures.tells;
    }) refl refl)

pub returns-in-Err-plan_of_file-clause-lanes : goal.returns-in-Err-plan_of_file-clause-lanes
returns-in-Err-plan_of_file-clause-lanes g c = LanesStay-refl g.S.Source.seen c.args.lanes.now

pub returns-clause-ends : goal.returns-clause-ends
returns-clause-ends g c =
    rw (← c.outside.view_is, ← c.outside-inside.view_is) (read c.in-Ok.schema c.in-Ok-plan_of_file.plan c.carry_out.result c.in-Ok.ensures.read (rw c.schema_of.ensures.same at c.in-Ok-plan_of_file.ensures.read)
    (rw (c.as_str.ensures, c.as_str-2.ensures) at c.carry_out.ensures.ends))
