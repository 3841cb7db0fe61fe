use Rattle.homomorphism.proofs.Runs.{marked_start, marked_run, all_marked}
use Rattle.homomorphism.proofs.arrange.are_runs.Goals as goal

pub loop-run-init : goal.loop-run-init
loop-run-init c = marked_start c.args.count c.in_ok-seen.seen.items (c.in_ok-seen.ensures.items_if_clones_equal (λ y e. e))

pub loop-run-preserved : goal.loop-run-preserved
loop-run-preserved c = marked_run c.args.count c.args.runs.now c.loop-run.run-index c.run-item.result c.loop-run.seen.items c.mark.new.seen.items c.loop-run-test.true c.run-item.is c.loop-run.invariant c.mark.ensures.width
    (rw c.as_slice.ensures at (c.mark.ensures.marked c.if-not-mark.false)) (rw c.as_slice.ensures at (c.mark.ensures.within c.if-not-mark.false))

pub returns : goal.returns
returns c = λ e. all_marked c.args.count c.args.runs.now c.loop-run.run-index c.loop-run.seen.items c.loop-run-test.false c.loop-run.invariant (rw c.as_slice-2.ensures.value at (c.all_true.ensures e))
