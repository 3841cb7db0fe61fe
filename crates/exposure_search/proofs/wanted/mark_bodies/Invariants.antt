use Rattle.exposure_search.specs.Relevance.{Keeps}
use Rattle.exposure_search.proofs.wanted.mark_bodies.Given as goal

-- what was marked still is
abbrev pub invariant-loop : goal.invariant-loop
invariant-loop l = Keeps l.fn.marks.items l.marks.items
