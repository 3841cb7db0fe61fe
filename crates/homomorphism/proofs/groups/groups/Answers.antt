use Rattle.homomorphism.proofs.Walking.{one_group}
use Rattle.homomorphism.proofs.groups.groups.Goals as goal

pub returns : goal.returns
returns c = rw c.in_ok-push.ensures.items (rw c.new-groups.ensures.items (rw c.from_vec.ensures
    (one_group c.args.rule.now c.args.owners.now c.args.whole.items c.requires)))
