use Rattle.std.proofs.Common.{take}
use Rattle.rule_pass.specs.Levels.{AreBelow}
use Rattle.rule_pass.proofs.levels.relations_width.Given as goal

-- the relations of the atoms so far are below the width
abbrev pub invariant-loop-atom : goal.invariant-loop-atom
invariant-loop-atom l = AreBelow l.width (take l.atom-index l.atoms)
