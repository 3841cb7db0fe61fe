use Rattle.std.proofs.Common.{◌≡◌, ◌-◌, drop, length}
use Rattle.csv.specs.Records.{fields_of}
use Rattle.csv_sources.specs.DataFile.{all_text}
use Rattle.csv_sources.proofs.header.is_text.Given as goal

-- what is left decides
abbrev pub invariant-loop-field : goal.invariant-loop-field
invariant-loop-field l = all_text (fields_of l.row) ≡ all_text (drop l.place (fields_of l.row))

abbrev pub decreases-loop-field : goal.decreases-loop-field
decreases-loop-field l = length (fields_of l.row) - l.place
