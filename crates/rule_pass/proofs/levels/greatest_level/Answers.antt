use Rattle.lists.proofs.Places.{take_indexed}
use Rattle.homomorphism.proofs.AtomByAtom.{is_among}
use Rattle.rule_pass.proofs.Tables.{level_push}
use Rattle.rule_pass.proofs.levels.greatest_level.Goals as goal

pub bounds-levels-atom : goal.bounds-levels-atom
bounds-levels-atom c = c.requires c.atom-item.result (is_among c.args.atoms.now c.loop-atom.atom-index c.atom-item.result c.loop-atom-test.true c.atom-item.is)

pub loop-atom-preserved : goal.loop-atom-preserved
loop-atom-preserved c =
    rw (take_indexed c.args.atoms.now c.loop-atom.atom-index c.atom-item.result c.loop-atom-test.true c.atom-item.is)
    (rw (level_push c.args.levels.now _ c.atom-item.result) (rw (← c.loop-atom.invariant) c.max-greatest.ensures))
