use Rattle.std.proofs.Common.{List, length, subst, ◌<◌, arith}
use Rattle.std.proofs.lemmas.Grind.{common_steps}
use Rattle.homomorphism.specs.declared.assignment.Assignment.{Assignment}
use Rattle.homomorphism.proofs.Walking.{left_some}
use Rattle.homomorphism.proofs.walk.Walk.is_over.Goals as goal

pub returns-clause-left : goal.returns-clause-left
returns-clause-left c = λ e.
    let w = c.self.inside in
    let some : 0 < length w.left.items = grind (arith, common_steps, c.is_empty.ensures, e) in
    subst (λ (left : List Assignment). 0 < length left) c.self.view_is (left_some w.lists w.owners w.left.items some c.self.invariant)
