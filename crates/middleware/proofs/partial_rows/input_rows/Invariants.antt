use Rattle.std.proofs.Common.{[], map, take}
use Rattle.middleware.specs.Branches.{HasAdded}
use Rattle.middleware.specs.Joining.{input_row_of}
use Rattle.middleware.proofs.partial_rows.input_rows.Given as goal

abbrev pub invariant-loop-number : goal.invariant-loop-number
invariant-loop-number l = HasAdded [] (map (input_row_of l.places l.inputs) (take l.number l.rows)) l.list
