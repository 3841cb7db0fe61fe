use Rattle.std.proofs.Common.{◌≡◌, map, take}
use Rattle.meaning.specs.declared.types.Val.TheVariants.{Const}
use Rattle.accessible_copy.proofs.known.constant_values.Given as goal

abbrev pub invariant-loop-text : goal.invariant-loop-text
invariant-loop-text l = l.values ≡ map Const (take l.text-index l.text-items)
