-- A text is refused, or the statement is decided.
use Rattle.std.proofs.Common.{refl}
use Rattle.run_command.specs.Explained.ExplainEnds.{refused, read}
use Rattle.run_command.proofs.explaining.explain_query.Goals as goal

pub returns-in-Ok-clause-ends : goal.returns-in-Ok-clause-ends
returns-in-Ok-clause-ends g c =
    rw (← c.outside.view_is, ← c.outside-inside.view_is) (read c.in-Ok.schema c.in-Ok.statement c.show.result c.in-Ok.ensures.schema c.in-Ok.ensures.statement
    (rw (c.as_str.ensures, c.as_str-2.ensures) at c.show.ensures.ends))

pub returns-in-Err-clause-ends : goal.returns-in-Err-clause-ends
returns-in-Err-clause-ends g c = rw (← c.outside.view_is, ← c.outside-inside.view_is) (refused c.tell.result (record {
  given = c.in-Err.stop;
  cause = c.in-Err.ensures.cause;
  tells = rw (c.as_str.ensures, c.as_str-2.ensures) at c.tell.ensures.tells;
}) refl)
