use Rattle.std.proofs.Common.{arith, subst, slice_index_or}
use Rattle.std.proofs.lemmas.List.{take_all}
use Rattle.homomorphism.proofs.Runs.{AreMarked, marked_none, marked_more}
use Rattle.homomorphism.proofs.Touching.{default}
use Rattle.homomorphism.proofs.arrange.mark.Goals as goal

pub loop-number-init : goal.loop-number-init
loop-number-init c = marked_none c.args.seen.now.items

pub loop-number-preserved : goal.loop-number-preserved
loop-number-preserved c =
    let run = c.args.run.now in
    let i = c.loop-number.number-index in
    marked_more run i (slice_index_or run i 0) c.args.seen.now.items c.loop-number.seen.items c.loop-number-test.true (default run i 0 (slice_index_or run i 0) c.loop-number-test.true) (omega arith) c.loop-number.invariant

pub returns-clause-marked : goal.returns-clause-marked
returns-clause-marked c = λ e. (subst (λ done. AreMarked done c.args.seen.now.items c.loop-number.seen.items) (take_all c.loop-number.number-index c.args.run.now c.loop-number-test.false) c.loop-number.invariant).1

pub returns-clause-within : goal.returns-clause-within
returns-clause-within c = λ e. (subst (λ done. AreMarked done c.args.seen.now.items c.loop-number.seen.items) (take_all c.loop-number.number-index c.args.run.now c.loop-number-test.false) c.loop-number.invariant).2
