-- Sorted and without doubles, the list has the labels of all the facts.
use Rattle.no_plan_witness.proofs.Occurring.{labels_joined}
use Rattle.no_plan_witness.proofs.Arranging.{arranged_ascend, arranged_same}
use Rattle.no_plan_witness.proofs.labels.labels_of.Goals as goal

pub returns-clause-ascend : goal.returns-clause-ascend
returns-clause-ascend c = arranged_ascend _ _ c.sort_unstable.ensures.sorted c.dedup.ensures.filtered

pub returns-clause-exactly : goal.returns-clause-exactly
returns-clause-exactly c =
    arranged_same _ _ _ _
    (labels_joined c.args.first.now c.args.second.now c.new-labels.result.items c.add_labels.new.labels.items c.add_labels-2.new.labels.items c.new-labels.ensures.items c.in_ok-add_labels.ensures c.in_ok-add_labels-2.ensures)
    c.sort_unstable.ensures.permutation c.dedup.ensures.filtered
