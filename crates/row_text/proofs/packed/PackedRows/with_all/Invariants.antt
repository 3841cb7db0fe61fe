use Rattle.std.proofs.Common.{◌≡◌, ◌++◌, take}
use Rattle.row_text.proofs.packed.PackedRows.with_all.Given as goal

abbrev pub invariant-loop-number : goal.invariant-loop-number
invariant-loop-number l = l.more ≡ l.fn.self ++ take l.number l.fn.rows
