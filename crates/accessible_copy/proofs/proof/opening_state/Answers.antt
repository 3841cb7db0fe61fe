use Rattle.std.proofs.Common.{List, sym, subst}
use Rattle.meaning.specs.declared.types.Ground.{Ground}
use Rattle.meaning.specs.Triggers.{LabelsBelow}
use Rattle.accessible_copy.proofs.Opening.{frozen_below}
use Rattle.accessible_copy.proofs.proof.opening_state.Goals as goal

pub start-requires : goal.start-requires
start-requires c =
    subst (λ (facts : List Ground). LabelsBelow facts c.args.query.now.variables) (sym c.in_ok-facts.ensures)
    (rw c.as_slice.ensures (frozen_below c.args.query.now.atoms c.args.query.now.variables c.requires))
