use Rattle.std.proofs.Common.{◌∙◌, ap, subst, ⊎_elim, Contains, take}
use Rattle.std.proofs.lemmas.List.{take_all}
use Rattle.std.proofs.lemmas.List.Elements.{Contains-push_cases}
use Rattle.lists.proofs.Places.{take_indexed}
use Rattle.meaning.specs.declared.types.Atom.{Atom}
use Rattle.homomorphism.specs.Frontier.{IsApart, AreApart}
use Rattle.homomorphism.proofs.start.are_apart.Goals as goal

pub loop-atom-preserved : goal.loop-atom-preserved
loop-atom-preserved c = λ atom h. ⊎_elim (λ before. c.loop-atom.invariant atom before)
    (λ same. subst (λ terms. IsApart terms c.args.given.now c.args.start.now) (c.as_slice.ensures ∙ ap (λ (t : Atom). t.terms) same) (c.is_apart.ensures c.if-not-is_apart.false))
    (Contains-push_cases (take c.loop-atom.atom-index c.args.atoms.now) c.atom-item.result atom (subst (λ z. Contains z atom) (take_indexed c.args.atoms.now c.loop-atom.atom-index c.atom-item.result c.loop-atom-test.true c.atom-item.is) h))

pub returns : goal.returns
returns c = λ e. subst (λ z. AreApart z c.args.given.now c.args.start.now) (take_all c.loop-atom.atom-index c.args.atoms.now c.loop-atom-test.false) c.loop-atom.invariant
