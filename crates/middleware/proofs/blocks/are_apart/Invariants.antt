use Rattle.std.proofs.Common.{take}
use Rattle.middleware.specs.Blocks.{IsApart}
use Rattle.middleware.proofs.blocks.are_apart.Given as goal

abbrev pub invariant-loop-column : goal.invariant-loop-column
invariant-loop-column l = IsApart (take l.column-index l.columns) l.others
