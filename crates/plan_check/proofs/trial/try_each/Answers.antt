use Rattle.std.proofs.Common.{◌≡◌, None, Some, take}
use Rattle.std.specs.Prelude.{slice_get}
use Rattle.std.proofs.lemmas.List.{take_all}
use Rattle.lists.proofs.Places.{got_indexed}
use Rattle.access_schema.specs.Meaning.{meaning_of}
use Rattle.plan_check.proofs.Trying.{contained_more, spent_more, separated_here, so_far_all}
use Rattle.plan_check.proofs.trial.try_each.Goals.{in-Contained, in-Spent}
use Rattle.plan_check.proofs.trial.try_each.Goals as goal

pub loop-number-preserved : goal.loop-number-preserved
loop-number-preserved c =
    let schema = meaning_of c.args.trial.now.schema.now in
    let others = c.args.trial.now.others.now in
    let forms = c.args.forms.now in
    let n = c.loop-number.number in
    let got : slice_get forms n ≡ Some c.index-forms-number.result = got_indexed forms n c.index-forms-number.result c.loop-number-test.true c.index-forms-number.is in
    elim c.match-branch-2.branch [
      | in-Contained w ↦
          rw w.spent-is
          (contained_more schema others c.args.trial.now.firings forms n c.index-forms-number.result c.loop-number.spent got c.loop-number.invariant (rw w.in-Contained.is at c.in_ok-try_form.ensures))
      | in-Spent w ↦
          rw (w.spent-is, w.or-spent.ensures)
          (spent_more schema others c.args.trial.now.firings forms n c.index-forms-number.result c.loop-number.spent got c.loop-number.invariant w.in-Spent.log (rw w.in-Spent.is at c.in_ok-try_form.ensures))
    ]

pub returns-in-Separated : goal.returns-in-Separated
returns-in-Separated c =
    let forms = c.args.forms.now in
    let n = c.loop-number.number in
    separated_here (meaning_of c.args.trial.now.schema.now) c.args.trial.now.others.now c.args.trial.now.firings forms n c.index-forms-number.result c.loop-number.spent
    (got_indexed forms n c.index-forms-number.result c.loop-number-test.true c.index-forms-number.is) c.loop-number.invariant c.in-Separated.instance c.in-Separated.row (rw c.in-Separated.is at c.in_ok-try_form.ensures)

pub returns-in-None : goal.returns-in-None
returns-in-None c =
    so_far_all (meaning_of c.args.trial.now.schema.now) c.args.trial.now.others.now c.args.trial.now.firings c.args.forms.now (take c.loop-number.number c.args.forms.now) None
    (take_all c.loop-number.number c.args.forms.now c.loop-number-test.false) (rw c.in-None.is at c.loop-number.invariant)
