use Rattle.std.proofs.Common.{vec_len}
use Rattle.middleware.specs.Blocks.{Gathers}
use Rattle.middleware.proofs.blocks.gather.Given as goal

abbrev pub decreases-loop-block : goal.decreases-loop-block
decreases-loop-block l = vec_len l.left

abbrev pub invariant-loop-block : goal.invariant-loop-block
invariant-loop-block l = Gathers l.count l.columns l.fn.table l.fn.blocks.items l.both l.left.items l.rest.items
