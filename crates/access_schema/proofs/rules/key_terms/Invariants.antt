use Rattle.std.proofs.Common.{◌≡◌, ◌+◌, ◌≤◌, ◌++◌, length}
use Rattle.access_schema.specs.Content.{key_terms}
use Rattle.access_schema.proofs.rules.key_terms.Given as goal

-- those so far, and those of the columns that are left
abbrev pub invariant-loop-left : goal.invariant-loop-left
invariant-loop-left l = record {
  are : key_terms l.own l.columns l.target_columns (length l.own) l.target ≡ l.terms.items ++ key_terms l.own l.columns l.target_columns l.next l.left;
  above : length l.own ≤ l.next;
  count : l.next + length l.left ≤ length l.own + length l.target;
}

abbrev pub decreases-loop-left : goal.decreases-loop-left
decreases-loop-left l = length l.left
