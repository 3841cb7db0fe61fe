use Rattle.std.proofs.Common.{◌≡◌, ◌++◌, take}
use Rattle.no_plan_witness.specs.Texts.{labels_among}
use Rattle.no_plan_witness.proofs.labels.add_fact_labels.Given as goal

-- the labels of the values so far are added
abbrev pub invariant-loop-val : goal.invariant-loop-val
invariant-loop-val l = l.labels.items ≡ l.fn.labels.items ++ labels_among (take l.val-index l.vals)
