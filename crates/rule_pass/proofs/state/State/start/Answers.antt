use Rattle.std.proofs.Common.{◌≡◌, [], List, arith, sym, subst}
use Rattle.meaning.specs.declared.types.Ground.{Ground}
use Rattle.meaning.specs.Added.{with_facts}
use Rattle.meaning.specs.Triggers.{LabelsBelow}
use Rattle.rule_pass.proofs.Bounds.{below_added}
use Rattle.rule_pass.proofs.state.State.start.Goals as goal

pub invariant_of-result : goal.invariant_of-result
invariant_of-result c =
    let e : c.add_all.new.self ≡ with_facts [] c.args.facts.items = rw c.found_by-store.ensures at c.in_ok-add_all.ensures.added in
    subst (λ (facts : List Ground). LabelsBelow facts c.args.next) (sym e)
    (below_added [] c.args.facts.items 0 c.args.next (λ fact k among has. absurd (omega arith)) (omega arith) c.requires)
