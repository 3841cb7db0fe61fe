use Rattle.homomorphism.proofs.Adding.{taken_last}
use Rattle.homomorphism.proofs.store.Store.drop_last.Goals as goal

pub invariant_of-self : goal.invariant_of-self
invariant_of-self c =
    taken_last c.self.inside.facts.keys c.take_last.new.facts.keys c.self.inside.index c.take_last.new.index c.take_last.ensures.facts c.take_last.ensures.none c.take_last.ensures.index c.self.invariant
