use Rattle.plan_extract.specs.Lent.{exposures_of}
use Rattle.plan_extract.proofs.Marked.{MarksFront}
use Rattle.plan_extract.proofs.marking.wanted_marks.Given as goal

-- the marks so far
abbrev pub invariant-loop-exposure : goal.invariant-loop-exposure
invariant-loop-exposure l = MarksFront (exposures_of l.exposures) l.wanted l.exposure-index l.marks.items
