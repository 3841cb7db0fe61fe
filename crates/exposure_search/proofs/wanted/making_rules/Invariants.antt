use Rattle.exposure_search.specs.Relevance.{IsWanted}
use Rattle.exposure_search.proofs.Still.{AreMakers}
use Rattle.exposure_search.proofs.wanted.making_rules.Given as goal

abbrev pub invariant-loop-rule : goal.invariant-loop-rule
invariant-loop-rule l = AreMakers l.rules l.next (IsWanted l.queries l.head l.wanted) l.rule-index l.makers.items
