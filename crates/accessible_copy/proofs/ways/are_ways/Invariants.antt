use Rattle.std.proofs.Common.{◌≡◌, ◌↔◌, length}
use Rattle.accessible_copy.specs.Ways.{ways_of}
use Rattle.accessible_copy.proofs.ways.are_ways.Given as goal

abbrev pub invariant-loop-rest : goal.invariant-loop-rest
invariant-loop-rest l = (l.ways ≡ ways_of l.methods) ↔ (l.rest ≡ ways_of l.others)

abbrev pub decreases-loop-rest : goal.decreases-loop-rest
decreases-loop-rest l = length l.rest
