use Rattle.std.proofs.Common.{◌≡◌, ℕ, List, Some, subst}
use Rattle.std.specs.Prelude.{Contains, slice_get, slice_index}
use Rattle.std.proofs.lemmas.List.{take_all}
use Rattle.meaning.specs.declared.types.Atom.{Atom}
use Rattle.meaning.specs.declared.types.Rule.{Rule}
use Rattle.accessible_copy.proofs.Listed.{at_got}
use Rattle.exposure_search.specs.Making.{IsMissing}
use Rattle.exposure_search.specs.Ahead.{CannotFire, facts_along}
use Rattle.exposure_search.proofs.Wanting.{front_each}
use Rattle.exposure_search.proofs.quieting.may_fire.Goals as goal

pub loop-number-preserved : goal.loop-number-preserved
loop-number-preserved c =
    front_each (λ (number : ℕ). (rule : Rule) → slice_get c.args.rules.now number ≡ Some rule → (atom : Atom) × Contains rule.body atom × IsMissing (facts_along c.args.facts.now c.args.path.now) atom.rel) c.args.numbers.now c.loop-number.number-index
    (slice_index c.args.numbers.now c.loop-number.number-index) (at_got c.args.numbers.now c.loop-number.number-index c.loop-number-test.true) c.loop-number.invariant (c.can_fire.ensures c.if-can_fire.false)

pub returns : goal.returns
returns c e = subst (λ (numbers : List ℕ). CannotFire c.args.rules.now numbers (facts_along c.args.facts.now c.args.path.now)) (take_all c.loop-number.number-index c.args.numbers.now c.loop-number-test.false) c.loop-number.invariant
