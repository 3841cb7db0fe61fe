use Rattle.std.proofs.Common.{◌≡◌, map, take}
use Rattle.homomorphism.specs.Narrowing.{value_or_none}
use Rattle.homomorphism.proofs.frontier.filled.Given as goal

abbrev pub invariant-loop-value : goal.invariant-loop-value
invariant-loop-value l = l.values.items ≡ map value_or_none (take l.value-index l.given)
