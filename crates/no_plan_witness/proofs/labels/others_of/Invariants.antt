use Rattle.std.proofs.Common.{◌≡◌, take, filter}
use Rattle.no_plan_witness.proofs.Apart.{is_other}
use Rattle.no_plan_witness.proofs.labels.others_of.Given as goal

-- the others of the labels so far
abbrev pub invariant-loop-label : goal.invariant-loop-label
invariant-loop-label l = l.others.items ≡ filter (is_other l.integers) (take l.label-index l.labels)
