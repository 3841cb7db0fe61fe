use Rattle.std.proofs.Common.{◌≡◌, ◌+◌, ◌-◌, drop, length}
use Rattle.csv.specs.Records.{fields_of}
use Rattle.csv_sources.specs.DataFile.{place_in}
use Rattle.csv_sources.proofs.header.place_in.Given as goal

-- the name is none of the fields so far
abbrev pub invariant-loop-field : goal.invariant-loop-field
invariant-loop-field l = place_in (fields_of l.header) l.name ≡ l.place + place_in (drop l.place (fields_of l.header)) l.name

abbrev pub decreases-loop-field : goal.decreases-loop-field
decreases-loop-field l = length (fields_of l.header) - l.place
