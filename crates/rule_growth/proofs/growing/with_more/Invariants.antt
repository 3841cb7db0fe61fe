use Rattle.std.proofs.Common.{◌≡◌, length}
use Rattle.rule_growth.proofs.growing.with_more.Given as goal

-- a mark for each rule so far
abbrev pub invariant-loop-number : goal.invariant-loop-number
invariant-loop-number l = length l.more.items ≡ l.number
