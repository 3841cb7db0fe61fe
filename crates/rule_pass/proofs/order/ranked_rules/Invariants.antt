use Rattle.rule_pass.proofs.Ranking.{AreRankedSoFar}
use Rattle.rule_pass.proofs.order.ranked_rules.Given as goal

-- the rules so far have their levels
abbrev pub invariant-loop-number : goal.invariant-loop-number
invariant-loop-number l = AreRankedSoFar l.rules l.levels l.number l.ranked.items
