use Rattle.std.proofs.Common.{subst}
use Rattle.meaning.specs.Triggers.{State, LabelsBelow}
use Rattle.rule_pass.proofs.state.State.next.Goals as goal

pub returns-clause-labels : goal.returns-clause-labels
returns-clause-labels c = subst (λ (s : State). LabelsBelow s.facts s.next) c.self.view_is c.self.invariant
