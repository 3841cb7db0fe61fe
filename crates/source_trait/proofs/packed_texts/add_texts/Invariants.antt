use Rattle.std.proofs.Common.{◌≡◌, ◌++◌, length, take}
use Rattle.csv.specs.Records.{cut_from}
use Rattle.source_trait.specs.RequestLog.{ArePacked}
use Rattle.source_trait.proofs.packed_texts.add_texts.Given as goal

-- the texts so far are added, and what was there stays in front of them
abbrev pub invariant-loop-text : goal.invariant-loop-text
invariant-loop-text l = record {
  packed : ArePacked l.ends.items l.bytes.items (cut_from 0 l.initial.ends.items l.initial.bytes.items ++ take l.text-index l.texts);
  bytes : take (length l.initial.bytes.items) l.bytes.items ≡ l.initial.bytes.items;
  ends : take (length l.initial.ends.items) l.ends.items ≡ l.initial.ends.items;
}
