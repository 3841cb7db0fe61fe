use Rattle.std.proofs.Common.{◌≤◌, sym, subst, arith}
use Rattle.meaning.specs.Triggers.{State}
use Rattle.rule_pass.proofs.state.State.raise.Goals as goal

pub invariant_of-self : goal.invariant_of-self
invariant_of-self c fact k among has =
    let later : c.self.inside.next ≤ c.args.next = subst (λ (s : State). s.next ≤ c.args.next) (sym c.self.view_is) c.requires.later in
    let low = c.self.invariant fact k among has in omega arith
