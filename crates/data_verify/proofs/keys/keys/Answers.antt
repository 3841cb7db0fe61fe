use Rattle.homomorphism.proofs.Covering.{told, denied}
use Rattle.data_verify.proofs.KeySets.{keys_none, keys_skip, keys_more}
use Rattle.data_verify.proofs.keys.keys.Goals.{then-fits_atom+in_ok-insert, else-fits_atom}
use Rattle.data_verify.proofs.keys.keys.Goals as goal

pub loop-fact-init : goal.loop-fact-init
loop-fact-init c = keys_none c.args.atom.now c.args.variables.now c.new-keys.result c.new-keys.ensures.firsts c.new-keys.ensures.others

pub loop-fact-preserved : goal.loop-fact-preserved
loop-fact-preserved c = elim c.if-fits_atom.branch [
  | then-fits_atom+in_ok-insert w ↦ rw w.keys-is (keys_more c.args.instance.now c.loop-fact.fact-index c.fact-item.result c.loop-fact-test.true c.fact-item.is c.args.atom.now c.args.variables.now c.loop-fact.keys c.loop-fact.invariant w.insert.new.self
      (told _ c.fits_atom.ensures w.if-fits_atom.true) (rw w.as_slice.ensures at (rw w.as_slice-then-fits_atom.ensures at w.in_ok-insert.ensures)))
  | else-fits_atom w ↦ rw w.keys-is (keys_skip c.args.instance.now c.loop-fact.fact-index c.fact-item.result c.loop-fact-test.true c.fact-item.is c.args.atom.now c.args.variables.now c.loop-fact.keys c.loop-fact.invariant (λ fits. denied _ c.fits_atom.ensures w.if-fits_atom.false fits))
]
