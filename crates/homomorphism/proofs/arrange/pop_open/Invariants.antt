use Rattle.std.specs.BinaryHeap.{heap_len}
use Rattle.homomorphism.proofs.arrange.pop_open.Given as goal

abbrev pub decreases-loop-count : goal.decreases-loop-count
decreases-loop-count l = heap_len l.candidates
