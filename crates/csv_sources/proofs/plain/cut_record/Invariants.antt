use Rattle.std.proofs.Common.{◌≡◌, ◌≤◌, drop, length, map}
use Rattle.csv.specs.Reading.{default_config, records}
use Rattle.memchr.specs.Find.{is_byte2, places_between}
use Rattle.csv_sources.proofs.Cutting.{left_at}
use Rattle.csv_sources.proofs.plain.cut_record.Given as goal

-- the fields so far are those of the first line that is not blank, up to the start of the next one
abbrev pub invariant-loop-place : goal.invariant-loop-place
invariant-loop-place l = record {
  within : l.start ≤ length l.text;
  left : l.separators ≡ places_between (is_byte2 44 10) l.text l.start (length l.text);
  same : records default_config l.text ≡ left_at (map (λ f. f.now) l.fields.items) (drop l.start l.text);
}

abbrev pub decreases-loop-place : goal.decreases-loop-place
decreases-loop-place l = length l.separators
