use Rattle.std.proofs.Common.{◌≡◌, ◌++◌, take}
use Rattle.csv.specs.Records.{fields_of}
use Rattle.row_text.proofs.packed.push_values.Given as goal

abbrev pub invariant-loop-value : goal.invariant-loop-value
invariant-loop-value l = fields_of l.values ≡ fields_of l.initial.values ++ take l.value-index l.row
