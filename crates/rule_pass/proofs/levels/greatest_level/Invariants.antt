use Rattle.std.proofs.Common.{◌≡◌, take}
use Rattle.rule_pass.specs.Levels.{greatest_level}
use Rattle.rule_pass.proofs.levels.greatest_level.Given as goal

-- the greatest level of the atoms so far
abbrev pub invariant-loop-atom : goal.invariant-loop-atom
invariant-loop-atom l = l.greatest ≡ greatest_level l.levels (take l.atom-index l.atoms)
