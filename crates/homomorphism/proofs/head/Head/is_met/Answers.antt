use Rattle.std.proofs.Common.{refl, map}
use Rattle.std.proofs.lemmas.Result.{IfOk-weaker}
use Rattle.meaning.specs.Triggers.{bound}
use Rattle.homomorphism.specs.Narrowing.{Gives, value_or_none}
use Rattle.homomorphism.specs.Matches.{NoMatch}
use Rattle.homomorphism.specs.Widening.{Widens}
use Rattle.homomorphism.proofs.AtomByAtom.{match_of}
use Rattle.homomorphism.proofs.Giving.{head_met, head_unmet}
use Rattle.homomorphism.proofs.Heads.{known_met, known_unmet}
use Rattle.homomorphism.proofs.head.Head.is_met.Goals as goal

pub returns-then-self-clause-met : goal.returns-then-self-clause-met
returns-then-self-clause-met c =
    IfOk-weaker c.are_there.result _ _ (λ met h yes. known_met c.args.store.now c.args.rule.now c.args.values.now.vals (rw c.as_slice-head.ensures at (h yes))) c.are_there.ensures.yes

pub returns-then-self-clause-unmet : goal.returns-then-self-clause-unmet
returns-then-self-clause-unmet c =
    IfOk-weaker c.are_there.result _ _ (λ met h no. known_unmet c.args.store.now c.args.rule.now c.args.values.now.vals c.requires.numbered (c.requires.head.known c.if-self.true) (rw c.as_slice-head.ensures at (h no))) c.are_there.ensures.no

pub returns-in-Some-clause-met : goal.returns-in-Some-clause-met
returns-in-Some-clause-met c = λ yes.
    let g : Gives c.args.values.now.vals (bound c.args.rule.now.head) c.in_ok-fixed.fixed = rw c.requires.head.width at (rw c.as_slice.ensures at c.in_ok-fixed.ensures) in
    let found : Widens c.args.store.now c.args.rule.now.head c.in_ok-fixed.fixed c.in-Some._values = rw c.as_slice-head.ensures at (rw c.in-Some.is at c.in_ok-_values.ensures.some) in
    head_met c.args.store.now c.args.rule.now c.args.values.now.vals (map value_or_none c.in-Some._values) c.in_ok-fixed.fixed c.requires.width g
    (match_of c.args.store.now c.args.rule.now.head c.in_ok-fixed.fixed c.in-Some._values (map value_or_none c.in-Some._values) found refl)

pub returns-clause-unmet : goal.returns-clause-unmet
returns-clause-unmet c = λ no.
    let g : Gives c.args.values.now.vals (bound c.args.rule.now.head) c.in_ok-fixed.fixed = rw c.requires.head.width at (rw c.as_slice.ensures at c.in_ok-fixed.ensures) in
    let none : NoMatch c.args.store.now c.args.rule.now.head c.in_ok-fixed.fixed = rw c.as_slice-head.ensures at (rw c.in_default.is at c.in_ok-_values.ensures.none) in
    head_unmet c.args.store.now c.args.rule.now c.args.values.now.vals c.in_ok-fixed.fixed c.requires.numbered c.requires.width g none
