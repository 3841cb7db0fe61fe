use Rattle.std.proofs.Common.{List, take, sym, subst}
use Rattle.meaning.specs.declared.types.Ground.{Ground}
use Rattle.meaning.specs.Triggers.{State, LabelsBelow}
use Rattle.rule_pass.proofs.state.State.cut_back.Goals as goal

pub invariant_of-self : goal.invariant_of-self
invariant_of-self c =
    subst (λ (facts : List Ground). LabelsBelow facts c.args.next) (sym c.truncate.ensures)
    (subst (λ (s : State). LabelsBelow (take c.args.count s.facts) c.args.next) (sym c.self.view_is) c.requires.labels)
