use Rattle.std.proofs.Common.{◌∙◌}
use Rattle.homomorphism.proofs.Relations.{found_relation, no_relation}
use Rattle.homomorphism.proofs.key_lists.KeyLists.of_relation.Goals as goal

pub returns-in-Some : goal.returns-in-Some
returns-in-Some c = c.as_slice.ensures ∙ found_relation c.args.self.now.relations c.args.rel c.in-Some.numbers.now c.in-Some.ensures.value

pub returns-in-None : goal.returns-in-None
returns-in-None c = no_relation c.args.self.now.relations c.args.rel c.in-None.ensures.value
