use Rattle.std.proofs.lemmas.List.Kept.{AllPairs-from_increasing}
use Rattle.accessible_copy.proofs.OpenListed.{ascending_distinct}
use Rattle.accessible_copy.proofs.open_facts.OpenFacts.ascending.Goals as goal

pub returns-then-ascends-clause-once : goal.returns-then-ascends-clause-once
returns-then-ascends-clause-once c = ascending_distinct _ (AllPairs-from_increasing _ (c.ascends.ensures c.if-ascends.true))
