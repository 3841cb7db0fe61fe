use Rattle.std.proofs.Common.{◌≡◌, Some, sym, ◌∙◌, subst, rules}
use Rattle.std.specs.Prelude.{slice_get}
use Rattle.lists.proofs.Members.{some_injective}
use Rattle.homomorphism.proofs.Covering.{denied}
use Rattle.meaning.specs.declared.types.Ground.{Ground}
use Rattle.accessible_copy.specs.Known.{known_values, facts_of}
use Rattle.accessible_copy.specs.OpenFacts.{CanAsk}
use Rattle.accessible_copy.proofs.open_facts.OpenFacts.is_open.Goals as goal

pub returns-then-not-has : goal.returns-then-not-has
returns-then-not-has c =
    let got : slice_get c.args.facts.now c.args.number ≡ Some c.in-Some.fact.now = search rules in
    let values = known_values c.args.known.now.constants (facts_of c.args.known.now.exposed) in (
      (λ yes. (c.in-Some.fact.now, got, denied _ c.has.ensures c.if-not-has.true, c.can_ask.ensures.0 yes)),
      (λ (other, at, not, can). c.can_ask.ensures.1 (subst (λ (f : Ground). CanAsk c.args.self.now.ways.items values f) (some_injective other c.in-Some.fact.now (sym at ∙ got)) can)),
    )
