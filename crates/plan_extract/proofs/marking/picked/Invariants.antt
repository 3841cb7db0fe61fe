use Rattle.std.proofs.Common.{◌≡◌, take}
use Rattle.plan_extract.specs.Lent.{exposures_of}
use Rattle.plan_extract.specs.Trimmed.{picked}
use Rattle.plan_extract.proofs.marking.picked.Given as goal

-- the marked ones so far
abbrev pub invariant-loop-number : goal.invariant-loop-number
invariant-loop-number l = exposures_of l.kept.items ≡ picked (take l.number (exposures_of l.exposures)) (take l.number l.marks)
