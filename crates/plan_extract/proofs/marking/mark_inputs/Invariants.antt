use Rattle.std.proofs.Common.{take}
use Rattle.plan_extract.proofs.Marked.{InputsFront}
use Rattle.plan_extract.proofs.marking.mark_inputs.Given as goal

-- the inputs so far are marked
abbrev pub invariant-loop-place : goal.invariant-loop-place
invariant-loop-place l = InputsFront l.fn.marks l.marks l.origins l.vals (take l.place-index l.inputs) l.inputs
