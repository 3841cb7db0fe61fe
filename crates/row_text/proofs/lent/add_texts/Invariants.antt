use Rattle.std.proofs.Common.{◌≡◌, ◌≤◌, ◌-◌, ◌++◌, drop, map, take}
use Rattle.csv.specs.Records.{fields_of}
use Rattle.row_text.proofs.lent.add_texts.Given as goal

abbrev pub invariant-loop-place : goal.invariant-loop-place
invariant-loop-place l = record {
  started : l.start ≤ l.place;
  added : map (λ s. s.now) l.texts.items ≡ map (λ s. s.now) l.initial.texts.items ++ take (l.place - l.start) (drop l.start (fields_of l.values));
}
