use Rattle.std.proofs.Common.{◌-◌, length}
use Rattle.source_trait.proofs.Indexing.{FoundTo}
use Rattle.source_trait.proofs.index.Index.rows_with.Given as goal

-- the rows before the number are answered, and the number is of the chain
abbrev pub invariant-loop-number : goal.invariant-loop-number
invariant-loop-number l = FoundTo l.self.positions l.values l.rows l.self.count l.self.crowded l.number l.found

abbrev pub decreases-loop-number : goal.decreases-loop-number
decreases-loop-number l = length l.rows - l.number
