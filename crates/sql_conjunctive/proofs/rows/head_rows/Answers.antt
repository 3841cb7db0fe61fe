use Rattle.std.proofs.Common.{◌∙◌, ap}
use Rattle.homomorphism.specs.Texts.{row_of}
use Rattle.sql_conjunctive.proofs.Rowing.{rows_push}
use Rattle.sql_conjunctive.proofs.rows.head_rows.Goals as goal

pub loop-assignment-preserved : goal.loop-assignment-preserved
loop-assignment-preserved c = c.in_ok-push.ensures.items
    ∙ rows_push c.args.head.now c.args.assignments.now c.loop-assignment.assignment-index c.assignment-item.result c.loop-assignment.rows.items _ c.loop-assignment-test.true c.assignment-item.is c.loop-assignment.invariant
    (c.in_ok-row_under.ensures ∙ ap (row_of c.args.head.now) c.as_slice.ensures)
