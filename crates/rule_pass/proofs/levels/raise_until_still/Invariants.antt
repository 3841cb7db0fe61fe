use Rattle.std.proofs.Common.{◌*◌, ◌-◌, length}
use Rattle.std.specs.Prelude.{sum}
use Rattle.rule_pass.specs.Levels.{AreReached}
use Rattle.rule_pass.proofs.levels.raise_until_still.Given as goal

-- the entries are reached
abbrev pub invariant-loop : goal.invariant-loop
invariant-loop l = AreReached l.rules l.levels

-- how far the entries can still rise
abbrev pub decreases-loop : goal.decreases-loop
decreases-loop l = length l.levels * length l.rules - sum l.levels
