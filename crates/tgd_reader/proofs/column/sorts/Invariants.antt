use Rattle.std.proofs.Common.{◌≡◌, take}
use Rattle.std.specs.Prelude.{map}
use Rattle.tgd_reader.specs.Reading.{sort_of}
use Rattle.tgd_reader.proofs.column.sorts.Given as goal

abbrev pub invariant-loop-column : goal.invariant-loop-column
invariant-loop-column l = l.sorts ≡ map sort_of (take l.column-index l.columns)
