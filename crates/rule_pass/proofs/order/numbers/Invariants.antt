use Rattle.std.proofs.Common.{◌≡◌, map, take}
use Rattle.rule_pass.specs.declared.order.Ranked.{Ranked}
use Rattle.rule_pass.proofs.order.numbers.Given as goal

-- the numbers so far
abbrev pub invariant-loop-rule : goal.invariant-loop-rule
invariant-loop-rule l = l.order.items ≡ map (λ (one : Ranked). one.number) (take l.rule-index l.ranked)
