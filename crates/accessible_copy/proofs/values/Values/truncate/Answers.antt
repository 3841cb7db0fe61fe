use Rattle.accessible_copy.specs.Places.{place_in}
use Rattle.accessible_copy.proofs.Placing.{placed_cut}
use Rattle.accessible_copy.proofs.values.Values.truncate.Goals as goal

pub invariant_of-self : goal.invariant_of-self
invariant_of-self c = rw c.truncate.ensures.items (placed_cut c.self.inside.list.items (place_in c.self.inside.places) c.args.count c.self.invariant)
