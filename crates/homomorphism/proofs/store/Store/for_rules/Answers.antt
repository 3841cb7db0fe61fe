use Rattle.std.proofs.Common.{sym, subst}
use Rattle.homomorphism.specs.Instances.{AreFactsOf}
use Rattle.homomorphism.proofs.store.Store.for_rules.Goals as goal

pub returns : goal.returns
returns c = subst (AreFactsOf c.args.instance) (sym c.in_ok-of_facts.ensures) c.in_ok-facts.ensures.same
