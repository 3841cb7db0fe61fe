use Rattle.std.proofs.Common.{◌≡◌, take}
use Rattle.source_trait.proofs.crowded.first_values.Given as goal

abbrev pub invariant-loop-number : goal.invariant-loop-number
invariant-loop-number l = l.first.items ≡ take l.number l.values
