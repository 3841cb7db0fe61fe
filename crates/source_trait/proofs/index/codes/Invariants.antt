use Rattle.std.proofs.Common.{◌≡◌, take}
use Rattle.source_trait.specs.Index.{codes_of}
use Rattle.source_trait.proofs.index.codes.Given as goal

abbrev pub invariant-loop-number : goal.invariant-loop-number
invariant-loop-number l = l.codes.items ≡ codes_of l.positions l.count (take l.number l.rows)
