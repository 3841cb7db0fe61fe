use Rattle.std.proofs.Common.{List, sym, subst}
use Rattle.meaning.specs.declared.types.Fact.{Fact}
use Rattle.homomorphism.specs.Instances.{AreFactsOf}
use Rattle.homomorphism.proofs.store.Store.of_instance.Goals as goal

pub returns : goal.returns
returns c = subst (λ (instance : List Fact). AreFactsOf instance c.in_ok-of_facts.field-0) c.in_ok-copy.ensures
    (subst (AreFactsOf c.in_ok-copy.field-0) (sym c.in_ok-of_facts.ensures) c.in_ok-facts.ensures.same)
