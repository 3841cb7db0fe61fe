use Rattle.std.proofs.Common.{◌≡◌, ◌++◌, ◌∷◌, [], List, subst}
use Rattle.least_search.specs.declared.space.Move.{Move}
use Rattle.exposure_search.specs.Making.{IsServed}
use Rattle.exposure_search.proofs.MovesFrom.{replaced_stay}
use Rattle.exposure_search.proofs.candidates.add_move.Goals as goal

pub returns-then-last-step-clause-stay : goal.returns-then-last-step-clause-stay
returns-then-last-step-clause-stay c move served =
    let old : c.args.moves.now.items ≡ c.pop.new.self.items ++ c.in-Some.last ∷ [] = c.in-Some.ensures.items in
    rw c.in_ok-push-2.ensures.items (replaced_stay c.pop.new.self.items c.in-Some.last c.args.step c.cheaper.result c.if-last-step.true c.cheaper.ensures.one c.cheaper.ensures.first move (subst (λ (ms : List Move). IsServed ms move) old served))
