use Rattle.std.proofs.Common.{◌≡◌, map}
use Rattle.meaning.specs.declared.types.Val.TheVariants.{Const}
use Rattle.homomorphism.proofs.instance.constants.Given as goal

abbrev pub invariant-loop-text : goal.invariant-loop-text
invariant-loop-text l = l.vals.items ≡ map Const l.yielded
