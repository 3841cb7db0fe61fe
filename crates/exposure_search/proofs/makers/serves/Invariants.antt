use Rattle.std.proofs.Common.{take}
use Rattle.exposure_search.proofs.Served.{NoneServes}
use Rattle.exposure_search.proofs.makers.serves.Given as goal

-- none of the head's first atoms can make the fact
abbrev pub invariant-loop-made : goal.invariant-loop-made
invariant-loop-made l = NoneServes l.given l.next l.width (take l.made-index l.head) l.atom
