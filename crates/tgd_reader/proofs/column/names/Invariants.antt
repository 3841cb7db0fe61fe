use Rattle.std.proofs.Common.{◌≡◌, take}
use Rattle.std.specs.Prelude.{map}
use Rattle.tgd_reader.specs.Reading.{name_of}
use Rattle.tgd_reader.proofs.column.names.Given as goal

abbrev pub invariant-loop-column : goal.invariant-loop-column
invariant-loop-column l = l.names ≡ map name_of (take l.column-index l.columns)
