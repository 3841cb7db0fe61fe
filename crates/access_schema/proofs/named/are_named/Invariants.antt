use Rattle.std.proofs.Common.{take}
use Rattle.access_schema.specs.Faults.{AreNamed}
use Rattle.access_schema.proofs.named.are_named.Given as goal

-- the parts so far are named
abbrev pub invariant-loop-part : goal.invariant-loop-part
invariant-loop-part l = AreNamed (take l.part-index l.parts)
