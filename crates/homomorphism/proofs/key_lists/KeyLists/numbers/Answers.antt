use Rattle.std.proofs.Common.{ap, sym, ◌∙◌}
use Rattle.homomorphism.specs.Listed.{listed}
use Rattle.homomorphism.proofs.Relations.{listed_relation, listed_value}
use Rattle.homomorphism.proofs.key_lists.KeyLists.numbers.Goals as goal

pub returns-in-Relation : goal.returns-in-Relation
returns-in-Relation c = c.of_relation.ensures ∙ sym (listed_relation c.args.self.now c.in-Relation.rel) ∙ ap (listed c.args.self.now) (sym c.in-Relation.is)

pub returns-in-Value : goal.returns-in-Value
returns-in-Value c = c.numbers.ensures ∙ sym (listed_value c.args.self.now c.args.key.now (c.in-Value.rel, c.in-Value.position, c.in-Value.val, c.in-Value.is))
