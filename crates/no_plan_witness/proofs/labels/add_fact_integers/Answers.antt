-- where no value is left, all labels are added
use Rattle.std.proofs.Common.{◌<◌, ◌∙◌, ◌++◌, length, sym, ap, append-nil, rules}
use Rattle.no_plan_witness.proofs.Standing.{no_value_left}
use Rattle.no_plan_witness.proofs.labels.add_fact_integers.Goals as goal

pub returns-in_default-2 : goal.returns-in_default-2
returns-in_default-2 c =
    let few : length c.loop-columns.left.now < 1 = search rules in
    let none = no_value_left c.loop-columns.columns.now c.loop-columns.left.now few in
    sym (c.loop-columns.invariant ∙ ap (λ l. c.loop-columns.labels.items ++ l) none ∙ append-nil _)
