use Rattle.std.proofs.Common.{◌≡◌, ◌++◌, take}
use Rattle.no_plan_witness.specs.Texts.{labels_in}
use Rattle.no_plan_witness.proofs.labels.add_labels.Given as goal

-- the labels of the facts so far are added
abbrev pub invariant-loop-fact : goal.invariant-loop-fact
invariant-loop-fact l = l.labels.items ≡ l.fn.labels.items ++ labels_in (take l.fact-index l.facts)
