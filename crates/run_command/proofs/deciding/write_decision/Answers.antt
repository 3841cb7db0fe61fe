-- What the sink took.
use Rattle.run_command.proofs.Writing.{on_whole, on_part}
use Rattle.run_command.proofs.deciding.write_decision.Goals as goal

pub returns-clause-whole : goal.returns-clause-whole
returns-clause-whole g c =
    on_whole c.args.schema.now c.args.decision.now c.in-Ok.text c.in-Ok.ensures.text _ _ c.in-Ok.ensures.utf8 c.print.result (rw c.as_slice.ensures at c.print.ensures.whole)

pub returns-clause-part : goal.returns-clause-part
returns-clause-part g c =
    on_part c.args.schema.now c.args.decision.now c.in-Ok.text c.in-Ok.ensures.text _ _ c.print.result (rw c.as_slice.ensures at c.print.ensures.part)
