use Rattle.std.proofs.Common.{sym, subst, ⊎_elim, Contains, take}
use Rattle.std.proofs.lemmas.List.{take_all}
use Rattle.std.proofs.lemmas.List.Elements.{Contains-push_cases}
use Rattle.lists.proofs.Places.{take_indexed}
use Rattle.meaning.specs.declared.types.Term.TheVariants.{Var}
use Rattle.homomorphism.proofs.groups.turn_all.Goals as goal

pub loop-term-preserved : goal.loop-term-preserved
loop-term-preserved c = λ x h low. ⊎_elim (λ before. c.loop-term.invariant x before low) (λ same. c.turns_part.ensures c.if-not-turns_part.false x same low)
    (Contains-push_cases (take c.loop-term.term-index c.args.terms.now) c.term-item.result (Var x) (subst (λ z. Contains z (Var x)) (take_indexed c.args.terms.now c.loop-term.term-index c.term-item.result c.loop-term-test.true c.term-item.is) h))

pub returns : goal.returns
returns c = λ e x h low. c.loop-term.invariant x (subst (λ z. Contains z (Var x)) (sym (take_all c.loop-term.term-index c.args.terms.now c.loop-term-test.false)) h) low
