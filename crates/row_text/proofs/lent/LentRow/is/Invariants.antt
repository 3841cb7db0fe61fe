use Rattle.std.proofs.Common.{◌≡◌, ◌≤◌, ◌++◌, length, map, take}
use Rattle.row_text.proofs.lent.LentRow.is.Given as goal

-- the texts so far are the values so far
abbrev pub invariant-loop-left : goal.invariant-loop-left
invariant-loop-left l = record {
  within : l.column ≤ length l.self;
  same : map (λ s. s.now) l.texts ≡ take l.column l.self ++ map (λ s. s.now) l.left;
}

abbrev pub decreases-loop-left : goal.decreases-loop-left
decreases-loop-left l = length l.left
