-- A text is refused, or the plan is judged.
use Rattle.std.proofs.Common.{◌≤◌, refl, arith}
use Rattle.command_io.proofs.Later.{rose_between, plan_later}
use Rattle.check_command.specs.Ends.CheckEnds.{refused, no_plan, read}
use Rattle.check_command.proofs.Short.{read_columns}
use Rattle.check_command.proofs.check.check_plan.Goals as goal

pub returns-in-Err-clause-ends : goal.returns-in-Err-clause-ends
returns-in-Err-clause-ends g c = rw (← c.outside.view_is, ← c.outside-inside.view_is) (refused c.tell.result (record {
  given = c.in-Err.stop;
  cause = c.in-Err.ensures.cause;
  tells = rw (c.as_str.ensures, c.as_str-2.ensures, c.as_str-3.ensures) at c.tell.ensures.tells;
}) refl)

pub returns-in-Err-plan_of_file-clause-ends : goal.returns-in-Err-plan_of_file-clause-ends
returns-in-Err-plan_of_file-clause-ends g c =
    let begun : g.F.Files.faults _ ≤ g.F.Files.faults c.read_texts.new.files = c.read_texts.ensures.later in
    rw (← c.outside.view_is, ← c.outside-inside.view_is) (no_plan c.in-Ok.both.0 c.in-Ok.both.1 c.tell-in-Err-plan_of_file.result c.in-Ok.ensures.schema c.in-Ok.ensures.statement (record {
      given = c.in-Err-plan_of_file.stop;
      cause = plan_later _ _ _ _ c.in-Err-plan_of_file.stop (rose_between _ _ _ _ begun (omega arith)) (rw c.read_texts.ensures.same at c.in-Err-plan_of_file.ensures.cause);
      tells = rw (c.as_str.ensures, c.as_str-2.ensures, c.as_str-3.ensures) at c.tell-in-Err-plan_of_file.ensures.tells;
    }) refl)

pub show-requires-clause-columns : goal.show-requires-clause-columns
show-requires-clause-columns g c = read_columns _ _ c.in-Ok-plan_of_file.plan c.in-Ok-plan_of_file.ensures.read

pub returns-clause-ends : goal.returns-clause-ends
returns-clause-ends g c =
    rw (← c.outside.view_is, ← c.outside-inside.view_is) (read c.in-Ok.both.0 c.in-Ok.both.1 c.in-Ok-plan_of_file.plan c.show.result c.in-Ok.ensures.schema c.in-Ok.ensures.statement
    (rw c.read_texts.ensures.same at c.in-Ok-plan_of_file.ensures.read) (rw (c.as_str.ensures, c.as_str-2.ensures, c.as_str-3.ensures) at c.show.ensures.ends))
