use Rattle.std.proofs.Common.{take, sym}
use Rattle.std.proofs.lemmas.List.{take_all}
use Rattle.lists.proofs.Places.{got_indexed}
use Rattle.plan_check.proofs.Trying.{none_more, none_all}
use Rattle.plan_check.proofs.rows.some_has.Goals as goal

pub has-requires : goal.has-requires
has-requires c = c.requires c.form-item.result (c.loop-form.form-index, c.loop-form-test.true, sym c.form-item.is)

pub returns-then-found-clause-yes : goal.returns-then-found-clause-yes
returns-then-found-clause-yes c = λ _. (c.form-item.result, (c.loop-form.form-index, c.loop-form-test.true, sym c.form-item.is), c.in_ok-found.ensures.yes c.if-found.true)

pub loop-form-preserved : goal.loop-form-preserved
loop-form-preserved c =
    none_more c.args.store.now c.args.head.now c.args.forms.now c.loop-form.form-index c.form-item.result (got_indexed c.args.forms.now c.loop-form.form-index c.form-item.result c.loop-form-test.true c.form-item.is)
    c.loop-form.invariant (c.in_ok-found.ensures.no c.if-found.false)

pub returns-clause-no : goal.returns-clause-no
returns-clause-no c = λ _.
    none_all c.args.store.now c.args.head.now c.args.forms.now (take c.loop-form.form-index c.args.forms.now) (take_all c.loop-form.form-index c.args.forms.now c.loop-form-test.false) c.loop-form.invariant
