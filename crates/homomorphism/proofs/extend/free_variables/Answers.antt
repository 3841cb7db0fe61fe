use Rattle.homomorphism.proofs.Binding.{place_fits}
use Rattle.homomorphism.proofs.Touching.{free_skip, free_push}
use Rattle.homomorphism.proofs.extend.free_variables.Goals.{in-Some+in_ok-push, in_default}
use Rattle.homomorphism.proofs.extend.free_variables.Goals as goal

pub free_variable-requires : goal.free_variable-requires
free_variable-requires c = place_fits _ _ _ _ c.loop-term-test.true c.term-item.is c.requires

pub loop-term-preserved : goal.loop-term-preserved
loop-term-preserved c = elim c.match-free_variable.branch [
  | in-Some+in_ok-push w ↦ rw w.free-is (rw w.in_ok-push.ensures.items
      (free_push c.args.terms.now c.loop-term.term-index c.term-item.result c.args.given.now c.loop-term.free.items c.loop-term-test.true c.term-item.is c.loop-term.invariant w.in-Some.variable (rw w.in-Some.is at c.free_variable.ensures.some)))
  | in_default w ↦ rw w.free-is
      (free_skip c.args.terms.now c.loop-term.term-index c.term-item.result c.args.given.now c.loop-term.free.items c.loop-term-test.true c.term-item.is c.loop-term.invariant (rw w.in_default.is at c.free_variable.ensures.none))
]
