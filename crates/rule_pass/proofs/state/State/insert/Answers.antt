use Rattle.std.proofs.Common.{◌≤◌, ◌∷◌, [], List, subst, sym}
use Rattle.meaning.specs.declared.types.Ground.{Ground}
use Rattle.meaning.specs.Triggers.{State, LabelsBelow}
use Rattle.rule_pass.proofs.Bounds.{below_added}
use Rattle.rule_pass.proofs.state.State.insert.Goals as goal

pub invariant_of-self : goal.invariant_of-self
invariant_of-self c = subst (λ (facts : List Ground). LabelsBelow facts c.self.inside.next) (sym c.in_err-insert.ensures.refused) c.self.invariant

pub invariant_of-self-2 : goal.invariant_of-self-2
invariant_of-self-2 c =
    let later : c.self.inside.next ≤ c.args.next = subst (λ (s : State). s.next ≤ c.args.next) (sym c.self.view_is) c.requires.later in
    subst (λ (facts : List Ground). LabelsBelow facts c.args.next) (sym c.in_ok-insert.ensures.kept)
    (below_added c.self.inside.store (c.args.fact ∷ []) c.self.inside.next c.args.next c.self.invariant later
    (c.requires.labels (subst (λ (s : State). LabelsBelow s.facts s.next) c.self.view_is c.self.invariant)))
