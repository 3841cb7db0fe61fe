use Rattle.std.proofs.lemmas.Result.{IfOk-weaker}
use Rattle.sql_conjunctive.proofs.Rowing.{rows_moved}
use Rattle.sql_conjunctive.proofs.rows.answers.Goals as goal

pub returns-clause-members : goal.returns-clause-members
returns-clause-members c =
    IfOk-weaker c.unpacked.result _ _
    (λ rows is. rw is
    (rows_moved c.args.instance.now c.args.statement.now.selects c.in_ok-rows.rows.items _ (rw (c.in_ok-packed.ensures, c.as_slice-2.ensures.value) at c.in_ok-distinct.ensures.same)
    (rw c.as_slice.ensures at c.in_ok-rows.ensures)))
    c.unpacked.ensures
