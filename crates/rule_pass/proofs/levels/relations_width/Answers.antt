use Rattle.std.proofs.Common.{subst, arith}
use Rattle.std.proofs.lemmas.List.{take_all}
use Rattle.lists.proofs.Places.{take_indexed}
use Rattle.rule_pass.specs.Levels.{AreBelow}
use Rattle.rule_pass.proofs.Tables.{below_more}
use Rattle.rule_pass.proofs.levels.relations_width.Goals as goal

pub loop-atom-preserved : goal.loop-atom-preserved
loop-atom-preserved c = rw (take_indexed c.args.atoms.now c.loop-atom.atom-index c.atom-item.result c.loop-atom-test.true c.atom-item.is)
    (below_more c.loop-atom.width c.max-width.result _ c.atom-item.result c.loop-atom.invariant (omega arith) (omega arith))

pub returns : goal.returns
returns c = subst (AreBelow c.loop-atom.width) (take_all c.loop-atom.atom-index c.args.atoms.now c.loop-atom-test.false) c.loop-atom.invariant
