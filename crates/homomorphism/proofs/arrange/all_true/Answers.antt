use Rattle.std.proofs.Common.{false, slice_index_or}
use Rattle.homomorphism.proofs.Runs.{seen_more}
use Rattle.homomorphism.proofs.Touching.{default}
use Rattle.homomorphism.proofs.arrange.all_true.Goals as goal

pub loop-one-preserved : goal.loop-one-preserved
loop-one-preserved c =
    let seen = c.args.seen.now in
    let i = c.loop-one.one-index in
    seen_more seen i (slice_index_or seen i false) c.loop-one-test.true (default seen i false (slice_index_or seen i false) c.loop-one-test.true) c.if-not-one.false c.loop-one.invariant
