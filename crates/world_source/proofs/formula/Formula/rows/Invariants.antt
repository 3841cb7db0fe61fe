use Rattle.std.proofs.Common.{◌≡◌, map}
use Rattle.std.specs.List.{range_with_len}
use Rattle.world_source.specs.Formulas.{row_of}
use Rattle.world_source.proofs.formula.Formula.rows.Given as goal

abbrev pub invariant-loop-number : goal.invariant-loop-number
invariant-loop-number l = l.rows ≡ map (row_of l.self.step l.self.count) (range_with_len 0 l.number)
