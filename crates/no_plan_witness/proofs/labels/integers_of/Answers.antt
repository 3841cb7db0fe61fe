-- Sorted and without doubles, the list has the labels that stand at integer columns.
use Rattle.access_schema.specs.Meaning.{meaning_of}
use Rattle.no_plan_witness.proofs.Standing.{integers_joined}
use Rattle.no_plan_witness.proofs.Arranging.{arranged_ascend, arranged_same}
use Rattle.no_plan_witness.proofs.labels.integers_of.Goals as goal

pub returns-clause-ascend : goal.returns-clause-ascend
returns-clause-ascend c = arranged_ascend _ _ c.sort_unstable.ensures.sorted c.dedup.ensures.filtered

pub returns-clause-exactly : goal.returns-clause-exactly
returns-clause-exactly c =
    arranged_same _ _ _ _
    (integers_joined (meaning_of c.args.schema.now) c.args.first.now c.args.second.now c.new-labels.result.items c.add_integers.new.labels.items c.add_integers-2.new.labels.items c.new-labels.ensures.items c.in_ok-add_integers.ensures c.in_ok-add_integers-2.ensures)
    c.sort_unstable.ensures.permutation c.dedup.ensures.filtered
