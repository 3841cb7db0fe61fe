use Rattle.std.proofs.Common.{take}
use Rattle.plan_extract.proofs.Knowing.{ArePassed}
use Rattle.plan_extract.proofs.ranking.inputs_known.Given as goal

-- the labels at the inputs so far have origins before
abbrev pub invariant-loop-place : goal.invariant-loop-place
invariant-loop-place l = ArePassed l.origins l.vals l.number (take l.place-index l.inputs)
