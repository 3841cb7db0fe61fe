use Rattle.std.proofs.Common.{map, take}
use Rattle.middleware.specs.Branches.{output_of, HasAdded}
use Rattle.middleware.proofs.branch.add_rows.Given as goal

abbrev pub invariant-loop-number : goal.invariant-loop-number
invariant-loop-number l = HasAdded l.fn.into (map (output_of l.outs) (take l.number l.rows)) l.more
