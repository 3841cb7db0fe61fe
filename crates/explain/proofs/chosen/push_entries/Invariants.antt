use Rattle.std.proofs.Common.{◌≡◌, ◌+◌, ◌≤◌, ◌++◌, length}
use Rattle.pq_text.specs.Utf8.{KeepsUtf8}
use Rattle.explain.specs.Printing.{entry_lines}
use Rattle.explain.proofs.chosen.push_entries.Given as goal

-- with the lines of the selects that are left, the text has those of all
abbrev pub invariant-loop-left : goal.invariant-loop-left
invariant-loop-left l = record {
  text : l.out.items ++ entry_lines l.number l.left ≡ l.initial.out.items ++ entry_lines 1 l.entries;
  count : l.number + length l.left ≤ length l.entries + 1;
  utf8 : KeepsUtf8 l.initial.out.items l.out.items;
}

abbrev pub decreases-loop-left : goal.decreases-loop-left
decreases-loop-left l = length l.left
