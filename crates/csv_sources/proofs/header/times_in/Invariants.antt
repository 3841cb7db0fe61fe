use Rattle.std.proofs.Common.{◌≡◌, ◌+◌, ◌-◌, ◌≤◌, drop, length}
use Rattle.csv.specs.Records.{fields_of}
use Rattle.csv_sources.specs.DataFile.{times_in}
use Rattle.csv_sources.proofs.header.times_in.Given as goal

-- how often the name stands in what is left is to be added
abbrev pub invariant-loop-field : goal.invariant-loop-field
invariant-loop-field l = record {
  total : times_in (fields_of l.header) l.name ≡ l.times + times_in (drop l.place (fields_of l.header)) l.name;
  few : l.times ≤ l.place;
}

abbrev pub decreases-loop-field : goal.decreases-loop-field
decreases-loop-field l = length (fields_of l.header) - l.place
