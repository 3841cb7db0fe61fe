use Rattle.std.proofs.Common.{◌≡◌, ◌≤◌, ◌-◌, ◌++◌, drop, take}
use Rattle.csv.specs.Records.{fields_of}
use Rattle.row_text.proofs.lent.add_fields.Given as goal

abbrev pub invariant-loop-place : goal.invariant-loop-place
invariant-loop-place l = record {
  started : l.start ≤ l.place;
  added : fields_of l.fields ≡ fields_of l.initial.fields ++ take (l.place - l.start) (drop l.start (fields_of l.values));
}
