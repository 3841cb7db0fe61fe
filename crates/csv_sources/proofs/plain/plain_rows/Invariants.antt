use Rattle.std.proofs.Common.{◌≡◌, ◌+◌, [], length}
use Rattle.csv.specs.Reading.{default_config, records}
use Rattle.csv.specs.Records.{AllText, fields_of, partial_of}
use Rattle.csv_sources.specs.DataFile.{AreText}
use Rattle.csv_sources.specs.Plain.{IsPlain}
use Rattle.csv_sources.proofs.Gathered.{AreGathered}
use Rattle.csv_sources.proofs.plain.plain_rows.Given as goal

-- the values are those of the records so far, none of which has a fault
abbrev pub invariant-loop-fields : goal.invariant-loop-fields
invariant-loop-fields l = record {
  plain : IsPlain l.left;
  count : l.number + length (records default_config l.left) ≡ length (records default_config l.text);
  ascii : AreText (records default_config l.left);
  whole : partial_of l.values ≡ [];
  text : AllText (fields_of l.values);
  rows : AreGathered l.width l.places (l.number + 1) (fields_of l.values) (records default_config l.text) (records default_config l.left);
}

abbrev pub decreases-loop-fields : goal.decreases-loop-fields
decreases-loop-fields l = length (records default_config l.left)
