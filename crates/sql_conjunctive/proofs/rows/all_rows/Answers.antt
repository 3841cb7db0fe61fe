use Rattle.std.proofs.Common.{◌+◌, List, sym, subst, take}
use Rattle.meaning.specs.Values.{Row}
use Rattle.sql_conjunctive.specs.Rows.{AreRowsOf}
use Rattle.sql_conjunctive.proofs.Rowing.{rows_more, rows_all}
use Rattle.sql_conjunctive.proofs.rows.all_rows.Goals as goal

pub loop-select-preserved : goal.loop-select-preserved
loop-select-preserved c = λ facts fits are. subst (λ (rs : List Row). AreRowsOf facts (take (c.loop-select.select-index + 1) c.args.selects.now) rs) (sym c.in_ok-append.ensures.items)
    (rows_more facts c.args.selects.now c.loop-select.select-index c.select-item.result c.loop-select.rows.items c.in_ok-more.more.items c.loop-select-test.true c.select-item.is
    (c.loop-select.invariant facts fits are) (c.in_ok-more.ensures facts fits are))

pub returns : goal.returns
returns c = λ facts fits are. rows_all facts c.args.selects.now c.loop-select.select-index c.loop-select.rows.items c.loop-select-test.false (c.loop-select.invariant facts fits are)
