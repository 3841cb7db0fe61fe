use Rattle.exposure_search.specs.Relevance.{IsMade}
use Rattle.exposure_search.proofs.Following.{IsReached, IsFront}
use Rattle.exposure_search.proofs.relevance.Marking.reach_fitting.Given as goal

-- those of the first facts that the atoms make are marked
abbrev pub invariant-loop-number : goal.invariant-loop-number
invariant-loop-number l = IsReached (IsFront l.facts (IsMade l.given l.atoms) l.number) l.fn.self l.self
