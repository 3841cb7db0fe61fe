use Rattle.std.proofs.Common.{refl, map}
use Rattle.meaning.specs.Triggers.{bound}
use Rattle.homomorphism.specs.Narrowing.{Gives, value_or_none}
use Rattle.homomorphism.specs.Matches.{NoMatch}
use Rattle.homomorphism.specs.Widening.{Widens}
use Rattle.homomorphism.proofs.AtomByAtom.{match_of}
use Rattle.homomorphism.proofs.Giving.{head_met, head_unmet}
use Rattle.homomorphism.proofs.rules.is_met.Goals as goal

pub returns-in-Some-clause-met : goal.returns-in-Some-clause-met
returns-in-Some-clause-met c = λ yes.
    let g : Gives c.args.values.now (bound c.args.rule.now.head) c.in_ok-fixed.fixed = rw c.as_slice.ensures at (rw c.variables_width-width.ensures at c.in_ok-fixed.ensures) in
    let found : Widens c.args.store.now c.args.rule.now.head c.in_ok-fixed.fixed c.in-Some._values = rw c.as_slice-2.ensures at (rw c.in-Some.is at c.in_ok-_values.ensures.some) in
    head_met c.args.store.now c.args.rule.now c.args.values.now (map value_or_none c.in-Some._values) c.in_ok-fixed.fixed c.requires.width g
    (match_of c.args.store.now c.args.rule.now.head c.in_ok-fixed.fixed c.in-Some._values (map value_or_none c.in-Some._values) found refl)

pub returns-clause-unmet : goal.returns-clause-unmet
returns-clause-unmet c = λ no.
    let g : Gives c.args.values.now (bound c.args.rule.now.head) c.in_ok-fixed.fixed = rw c.as_slice.ensures at (rw c.variables_width-width.ensures at c.in_ok-fixed.ensures) in
    let none : NoMatch c.args.store.now c.args.rule.now.head c.in_ok-fixed.fixed = rw c.as_slice-2.ensures at (rw c.in_default.is at c.in_ok-_values.ensures.none) in
    head_unmet c.args.store.now c.args.rule.now c.args.values.now c.in_ok-fixed.fixed c.requires.numbered c.requires.width g none
