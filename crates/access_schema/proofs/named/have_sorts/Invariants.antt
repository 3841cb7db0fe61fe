use Rattle.std.proofs.Common.{take}
use Rattle.access_schema.specs.Faults.{HaveSorts}
use Rattle.access_schema.proofs.named.have_sorts.Given as goal

-- the parts so far have their sorts
abbrev pub invariant-loop-part : goal.invariant-loop-part
invariant-loop-part l = HaveSorts (take l.part-index l.parts)
