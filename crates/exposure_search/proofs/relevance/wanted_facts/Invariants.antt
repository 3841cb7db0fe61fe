use Rattle.exposure_search.proofs.Following.{AreBegun}
use Rattle.exposure_search.proofs.relevance.wanted_facts.Given as goal

abbrev pub invariant-loop-fact : goal.invariant-loop-fact
invariant-loop-fact l = AreBegun l.wanted l.facts l.fact-index l.marking
