use Rattle.std.proofs.Common.{take}
use Rattle.plan_extract.proofs.Noting.{Noted}
use Rattle.plan_extract.proofs.origins.note_all.Given as goal

-- the labels so far are noted
abbrev pub invariant-loop-value : goal.invariant-loop-value
invariant-loop-value l = Noted l.fn.origins l.origins (take l.value-index l.vals) l.number
