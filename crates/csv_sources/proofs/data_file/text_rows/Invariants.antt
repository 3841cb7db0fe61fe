use Rattle.std.proofs.Common.{◌≡◌, ◌+◌, length}
use Rattle.csv.specs.Records.{fields_of}
use Rattle.csv_sources.specs.Records.{IsReading, records_left}
use Rattle.csv_sources.proofs.Gathered.{AreGathered}
use Rattle.csv_sources.proofs.data_file.text_rows.Given as goal

-- the values are those of the records so far, none of which has a fault
abbrev pub invariant-loop-record : goal.invariant-loop-record
invariant-loop-record l = record {
  reading : IsReading l.reader;
  count : l.number + length (records_left l.reader) ≡ length (records_left l.initial.reader);
  rows : AreGathered l.width l.places (l.number + 1) (fields_of l.values) (records_left l.initial.reader) (records_left l.reader);
}

abbrev pub decreases-loop-record : goal.decreases-loop-record
decreases-loop-record l = length (records_left l.reader)
