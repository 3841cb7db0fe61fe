use Rattle.std.proofs.Common.{◌≡◌, take}
use Rattle.source_trait.specs.Index.{chains_of}
use Rattle.source_trait.proofs.index.chosen_of.Given as goal

abbrev pub invariant-loop-number : goal.invariant-loop-number
invariant-loop-number l = l.chains.items ≡ chains_of l.positions l.count l.crowded (take l.number l.rows)
