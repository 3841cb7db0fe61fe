use Rattle.std.proofs.Common.{◌≤◌, length}
use Rattle.middleware.specs.Parts.{HaveChains}
use Rattle.middleware.proofs.parts.chains_by_key.Given as goal

-- the rows from the number on stand in their chains
abbrev pub invariant-loop-number : goal.invariant-loop-number
invariant-loop-number l = record {
  within : l.number ≤ length l.answer;
  chains : HaveChains l.positions l.answer l.keys l.number l.heads.items l.next.items;
}

abbrev pub decreases-loop-number : goal.decreases-loop-number
decreases-loop-number l = l.number
