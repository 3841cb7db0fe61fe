use Rattle.std.proofs.Common.{◌≡◌, map}
use Rattle.homomorphism.specs.Instances.{ground_pair}
use Rattle.homomorphism.proofs.instance.grounds.Given as goal

abbrev pub invariant-loop-rel : goal.invariant-loop-rel
invariant-loop-rel l = l.facts.items ≡ map ground_pair l.yielded
