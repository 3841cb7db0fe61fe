use Rattle.std.proofs.Common.{◌≡◌, Some, take, sym, ap, ◌∙◌, subst, ⊎_elim}
use Rattle.std.specs.Prelude.{Contains, slice_get, slice_index}
use Rattle.std.proofs.lemmas.List.{take_all, take_more}
use Rattle.std.proofs.lemmas.List.Elements.{Contains-push_cases}
use Rattle.lists.proofs.Members.{some_injective}
use Rattle.lists.proofs.Booleans.{test_holds, test_fails}
use Rattle.homomorphism.proofs.Covering.{told, denied}
use Rattle.accessible_copy.specs.declared.ways.Way.{Way}
use Rattle.accessible_copy.specs.Methods.{methods_of}
use Rattle.accessible_copy.proofs.Listed.{at_index}
use Rattle.accessible_copy.proofs.open_facts.OpenFacts.can_ask.Goals as goal

pub returns-then-has_inputs : goal.returns-then-has_inputs
returns-then-has_inputs c =
    let numbers = c.numbers-numbers.result.now in
    let number = slice_index numbers c.loop-number.number-index in
    let among : Contains (methods_of c.args.self.now.index c.args.fact.now.rel) number = subst (λ l. Contains l number) c.numbers-numbers.ensures (at_index numbers c.loop-number.number-index c.loop-number-test.true) in
    let (other, got, rel) = c.requires.each c.args.fact.now.rel number among in
    let (way, at, are) = told _ c.has_inputs.ensures c.if-has_inputs.true in
    test_holds (number, way, at, ap (λ (w : Way). w.rel) (some_injective way other (sym at ∙ got)) ∙ rel, are)

pub loop-number-preserved : goal.loop-number-preserved
loop-number-preserved c = λ number way among at are.
    let numbers = c.numbers-numbers.result.now in
    let index = c.loop-number.number-index in
    ⊎_elim (λ h. c.loop-number.invariant number way h at are)
    (λ same. denied _ c.has_inputs.ensures c.if-has_inputs.false (way, subst (λ k. slice_get c.args.self.now.ways.items k ≡ Some way) (sym same) at, are))
    (Contains-push_cases (take index numbers) (slice_index numbers index) number (subst (λ l. Contains l number) (take_more numbers index 0 c.loop-number-test.true) among))

pub returns : goal.returns
returns c = test_fails (λ (number, way, at, rel, are).
    let among : Contains (methods_of c.args.self.now.index c.args.fact.now.rel) number = subst (λ r. Contains (methods_of c.args.self.now.index r) number) rel (c.requires.all number way at) in
    let here : Contains c.numbers-numbers.result.now number = subst (λ l. Contains l number) (sym c.numbers-numbers.ensures) among in
    c.loop-number.invariant number way (subst (λ l. Contains l number) (sym (take_all c.loop-number.number-index c.numbers-numbers.result.now c.loop-number-test.false)) here) at are)
