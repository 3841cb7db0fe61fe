-- The three ways in which the command ends.
use Rattle.std.proofs.Common.{refl}
use Rattle.schema_command.specs.Ends.SchemaEnds.{printed, refused, cut}
use Rattle.schema_command.proofs.print.print_schema.Goals as goal

pub returns-in-Err-clause-ends : goal.returns-in-Err-clause-ends
returns-in-Err-clause-ends g c = rw (← c.outside.view_is, ← c.outside-inside.view_is) (refused c.tell.result (record {
  given = c.in-Err.stop;
  cause = c.in-Err.ensures.cause;
  tells = rw c.as_str.ensures at c.tell.ensures.tells;
}) refl)

pub returns-in-Ok-write_schema-clause-ends : goal.returns-in-Ok-write_schema-clause-ends
returns-in-Ok-write_schema-clause-ends g c = rw (← c.outside.view_is, ← c.outside-inside.view_is) (printed c.in-Ok.schema c.in-Ok.ensures.read c.in-Ok-write_schema.ensures.whole refl)

pub returns-clause-ends : goal.returns-clause-ends
returns-clause-ends g c = rw (← c.outside.view_is, ← c.outside-inside.view_is) (cut c.in-Ok.schema c.tell-in-Err-write_schema.result c.in-Ok.ensures.read c.in-Err-write_schema.ensures.part (record {
  given = c.in-Err-write_schema.stop;
  cause = c.in-Err-write_schema.ensures.cause;
  tells = rw (c.as_slice.ensures, c.as_str.ensures) at c.tell-in-Err-write_schema.ensures.tells;
}))
