use Rattle.std.proofs.Common.{take}
use Rattle.std.specs.Prelude.{Contains}
use Rattle.exposure_search.proofs.Following.{IsReached}
use Rattle.exposure_search.proofs.relevance.Marking.reach_all.Given as goal

-- the first numbers are marked
abbrev pub invariant-loop-number : goal.invariant-loop-number
invariant-loop-number l = IsReached (Contains (take l.number-index l.numbers)) l.fn.self l.self
