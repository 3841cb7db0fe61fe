use Rattle.std.proofs.Common.{◌≡◌, ◌++◌, length}
use Rattle.csv.specs.Records.{AllText, Rising, cut_from}
use Rattle.source_trait.proofs.packed_texts.copies.Given as goal

-- the texts so far and those that are left are all
abbrev pub invariant-loop-left : goal.invariant-loop-left
invariant-loop-left l = record {
  rising : Rising l.start l.left (length l.bytes);
  text : AllText (cut_from l.start l.left l.bytes);
  all : l.texts.items ++ cut_from l.start l.left l.bytes ≡ cut_from 0 l.ends l.bytes;
}

abbrev pub decreases-loop-left : goal.decreases-loop-left
decreases-loop-left l = length l.left
