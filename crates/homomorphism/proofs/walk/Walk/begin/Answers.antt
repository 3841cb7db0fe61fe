use Rattle.homomorphism.proofs.Walking.{begun_within}
use Rattle.homomorphism.proofs.walk.Walk.begin.Goals as goal

pub invariant_of-result : goal.invariant_of-result
invariant_of-result c = rw c.in_ok-left.ensures (begun_within c.args.groups.items c.requires)
