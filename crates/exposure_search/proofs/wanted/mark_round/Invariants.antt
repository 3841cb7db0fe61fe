use Rattle.exposure_search.proofs.Wanting.{IsRound}
use Rattle.exposure_search.proofs.wanted.mark_round.Given as goal

abbrev pub invariant-loop-rule : goal.invariant-loop-rule
invariant-loop-rule l = IsRound l.rules l.rule-index l.fn.marks.items l.marks.items l.grew
