use Rattle.std.proofs.Common.{arith, subst}
use Rattle.homomorphism.proofs.Runs.{Counted, counted_none, counted_more, one_run}
use Rattle.homomorphism.proofs.arrange.numbers.Goals as goal

pub loop-number-init : goal.loop-number-init
loop-number-init c = rw c.new-run.ensures counted_none

pub loop-number-preserved : goal.loop-number-preserved
loop-number-preserved c = rw c.in_ok-push.ensures.ok (counted_more c.loop-number.number c.loop-number.run c.loop-number.invariant)

pub returns : goal.returns
returns c = one_run c.args.count c.loop-number.run (subst (λ n. Counted n c.loop-number.run) (omega (arith, c.loop-number-test.false, c.loop-number.auto.number-end)) c.loop-number.invariant)
