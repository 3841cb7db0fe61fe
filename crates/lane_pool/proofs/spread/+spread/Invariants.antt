use Rattle.std.proofs.Common.{◌+◌, ◌-◌, ◌*◌, length}
use Rattle.lane_pool.proofs.spread.+spread.Given as goal

abbrev pub decreases-spread : goal.decreases-spread
decreases-spread g l = 4 * length l.workers.now

abbrev pub decreases-both_halves : goal.decreases-both_halves
decreases-both_halves g l = 4 * (length l.low.now + length l.high.now) - 1

abbrev pub decreases-both_halves-front : goal.decreases-both_halves-front
decreases-both_halves-front g l = 4 * length l.low.now + 1

abbrev pub decreases-both_halves-back : goal.decreases-both_halves-back
decreases-both_halves-back g l = 4 * length l.high.now + 1
