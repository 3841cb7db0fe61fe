use Rattle.std.proofs.Common.{◌≡◌, take}
use Rattle.accessible_copy.specs.Ways.{ways_of}
use Rattle.accessible_copy.proofs.ways.ways_of.Given as goal

abbrev pub invariant-loop-method : goal.invariant-loop-method
invariant-loop-method l = l.ways.items ≡ ways_of (take l.method-index l.methods)
