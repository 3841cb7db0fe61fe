use Rattle.std.proofs.Common.{◌≡◌, false, sym, ap, ◌∙◌, rules}
use Rattle.std.specs.Prelude.{replicate}
use Rattle.least_search.specs.Packing.{packed}
use Rattle.least_search.proofs.Sets.{none_is}
use Rattle.least_search.proofs.node.empty_set.Goals as goal

pub returns-clause-set : goal.returns-clause-set
returns-clause-set c =
    let falses : c.in_ok-vec.field-0.items ≡ replicate c.args.facts false = search rules in
    falses ∙ none_is c.args.facts

pub returns-clause-key : goal.returns-clause-key
returns-clause-key c =
    let falses : c.in_ok-vec.field-0.items ≡ replicate c.args.facts false = search rules in
    c.in_ok-empty.ensures ∙ ap packed (sym (falses ∙ none_is c.args.facts))
