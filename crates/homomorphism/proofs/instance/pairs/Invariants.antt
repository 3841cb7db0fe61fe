use Rattle.std.proofs.Common.{◌≡◌, map}
use Rattle.homomorphism.specs.Instances.{pair_of}
use Rattle.homomorphism.proofs.instance.pairs.Given as goal

abbrev pub invariant-loop-fact : goal.invariant-loop-fact
invariant-loop-fact l = l.rows.items ≡ map pair_of l.yielded
