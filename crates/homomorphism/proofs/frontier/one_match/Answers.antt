use Rattle.std.proofs.Common.{◌∙◌, ap, map, subst}
use Rattle.homomorphism.specs.Narrowing.{value_or_none}
use Rattle.homomorphism.specs.Widening.{Widens, taken}
use Rattle.homomorphism.proofs.AtomByAtom.{match_of}
use Rattle.homomorphism.proofs.frontier.one_match.Goals as goal

pub returns-then-branch-clause-some : goal.returns-then-branch-clause-some
returns-then-branch-clause-some c =
    match_of c.args.store.now (taken c.args.atoms.now c.args.order.now) c.args.given.now c.extend.new.given.items c.in_ok-filled.field-0.vals
    (subst (λ g. Widens c.args.store.now (taken c.args.atoms.now c.args.order.now) g c.extend.new.given.items) c.in_ok-wide.ensures (c.in_ok-extend.ensures.found c.if-branch.true))
    (c.in_ok-filled.ensures ∙ ap (map value_or_none) c.as_slice.ensures.value)
