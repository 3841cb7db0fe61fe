use Rattle.std.proofs.Common.{take}
use Rattle.rule_pass.specs.Passing.{AreMet}
use Rattle.rule_pass.proofs.choose.first_active.Given as goal

-- the rules so far are met
abbrev pub invariant-loop-place : goal.invariant-loop-place
invariant-loop-place l = AreMet l.rules l.state.facts (take l.place l.order)
