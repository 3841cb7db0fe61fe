use Rattle.std.proofs.Common.{take}
use Rattle.accessible_copy.specs.Methods.{IsMethodIndex}
use Rattle.accessible_copy.proofs.method_index.MethodIndex.of.Given as goal

abbrev pub invariant-loop-number : goal.invariant-loop-number
invariant-loop-number l = IsMethodIndex (take l.number l.schema.methods) l.numbers.items
