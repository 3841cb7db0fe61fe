use Rattle.std.proofs.Common.{refl}
use Rattle.accessible_copy.proofs.Placing.{constant_others}
use Rattle.accessible_copy.proofs.first_places.FirstPlaces.set.Goals as goal

pub returns-in_ok-insert-in-Const-clause-others : goal.returns-in_ok-insert-in-Const-clause-others
returns-in_ok-insert-in-Const-clause-others c = rw c.in-Const.is (constant_others c.in-Const.text c.args.self.now (record c.args.self.now { constants = c.insert.new.self }) refl
    (λ q apart. c.in_ok-insert-in-Const.ensures.updates.2 q (rw c.in_ok-text-in-Const.ensures apart)))
