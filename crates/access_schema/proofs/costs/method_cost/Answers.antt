use Rattle.std.proofs.Common.{refl, ◌∙◌}
use Rattle.access_schema.proofs.Summing.{found_some, found_named, found_at, copied_some, copied_is, cost_few}
use Rattle.access_schema.proofs.costs.method_cost.Goals as goal

pub unwrap-number-requires : goal.unwrap-number-requires
unwrap-number-requires c = let named = c.requires in found_some c.args.schema.now.methods c.args.name.now c.method.result c.method.ensures named.0 named.1

pub unwrap-requires : goal.unwrap-requires
unwrap-requires c =
    let at = found_at c.args.schema.now.methods c.args.name.now c.method.result c.unwrap-number.result c.method.ensures c.unwrap-number.ensures in
    copied_some c.get.result at.0 (c.get.ensures ∙ at.1)

pub returns-clause-cost : goal.returns-clause-cost
returns-clause-cost c =
    let method = c.unwrap.result.now in
    let there = copied_is c.get.result c.unwrap.result _ c.get.ensures c.unwrap.ensures in
    (method, found_named c.args.schema.now c.args.name.now c.method.result c.unwrap-number.result method c.method.ensures c.unwrap-number.ensures there, refl)

pub returns-clause-limit : goal.returns-clause-limit
returns-clause-limit c =
    let method = c.unwrap.result.now in
    let there = copied_is c.get.result c.unwrap.result _ c.get.ensures c.unwrap.ensures in
    cost_few c.args.schema.now c.args.name.now method (found_named c.args.schema.now c.args.name.now c.method.result c.unwrap-number.result method c.method.ensures c.unwrap-number.ensures there)
