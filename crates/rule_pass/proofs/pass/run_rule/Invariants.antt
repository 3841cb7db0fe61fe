use Rattle.std.proofs.Common.{length}
use Rattle.rule_pass.proofs.OnePass.{IsPassing}
use Rattle.rule_pass.proofs.pass.run_rule.Given as goal

-- the matches so far are met
abbrev pub invariant-loop-head : goal.invariant-loop-head
invariant-loop-head g l = IsPassing g.L.Log.logged g.L.Log.size l.rules l.order l.fn.state l.fn.log l.place l.budget l.rule l.walk l.log l.state

abbrev pub decreases-loop-head : goal.decreases-loop-head
decreases-loop-head g l = length l.walk
