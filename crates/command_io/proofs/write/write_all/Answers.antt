use Rattle.std.proofs.Common.{arith}
use Rattle.std.proofs.lemmas.Grind.{common_steps}
use Rattle.std.proofs.Math.Seq.{take-add}
use Rattle.command_io.proofs.SinkTakes.{goes_on}
use Rattle.command_io.proofs.write.write_all.Goals as goal

pub loop-done-preserved : goal.loop-done-preserved
loop-done-preserved g c = record {
  within = grind (arith, common_steps);
  took = goes_on _ _ _ _ _ _ (grind (arith, common_steps, take-add c.loop-done.done c.in_ok-count.count c.args.text.now)) c.loop-done.invariant.took c.in_ok-count.ensures.taken;
  later = omega (arith, c.loop-done.invariant.later, c.in_ok-count.ensures.later);
}
