use Rattle.std.proofs.Common.{◌≡◌, map, take}
use Rattle.meaning.specs.Extract.{out_of}
use Rattle.plan_extract.proofs.branch.outs.Given as goal

-- the places of the values so far
abbrev pub invariant-loop-value : goal.invariant-loop-value
invariant-loop-value l = l.outs.items ≡ map (out_of l.columns) (take l.value-index l.head)
