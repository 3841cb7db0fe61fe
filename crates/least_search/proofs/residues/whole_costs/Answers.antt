use Rattle.std.proofs.Common.{◌≡◌, [], List, map, sym, ap, ◌∙◌, subst}
use Rattle.std.proofs.lemmas.List.{take_all}
use Rattle.least_search.specs.declared.residues.Residue.{Residue}
use Rattle.least_search.specs.Sides.{AreResidues, whole}
use Rattle.least_search.proofs.Cutting.{residues_none}
use Rattle.least_search.proofs.residues.whole_costs.Goals as goal

pub returns : goal.returns
returns g c =
    let made : c.loop-step.residues.items ≡ map whole c.in_ok-moves.moves.items = c.loop-step.invariant ∙ ap (map whole) (take_all c.loop-step.step-index c.deref-step-items.result.now c.loop-step-test.false) ∙ ap (map whole) c.deref-step-items.ensures.value in
    subst (λ (xs : List Residue). AreResidues (g.S.Space.CanMove c.args.space.now) [] xs) (sym made) (residues_none (g.S.Space.CanMove c.args.space.now) c.in_ok-moves.moves.items c.in_ok-moves.ensures)
