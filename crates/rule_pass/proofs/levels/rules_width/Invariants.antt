use Rattle.std.proofs.Common.{take}
use Rattle.rule_pass.specs.Levels.{RulesAreBelow}
use Rattle.rule_pass.proofs.levels.rules_width.Given as goal

-- the relations of the rules so far are below the width
abbrev pub invariant-loop-rule : goal.invariant-loop-rule
invariant-loop-rule l = RulesAreBelow l.width (take l.rule-index l.rules)
