use Rattle.meaning.specs.Conjunctive.{ConditionIsSorted}
use Rattle.access_schema.specs.Meaning.{meaning_of}
use Rattle.sql_select.proofs.Sorted.{denied, before_more, first_without, all_ones}
use Rattle.sql_select.proofs.sorts.unsorted_place.Goals as goal

pub loop-place-preserved : goal.loop-place-preserved
loop-place-preserved c =
    before_more (ConditionIsSorted (meaning_of c.args.schema.now) c.args.select.now) c.args.select.now.conditions
    c.as_slice-condition-items.result.now c.loop-place.place c.condition-item.result c.as_slice-condition-items.ensures
    c.loop-place-test.true c.condition-item.is c.loop-place.invariant (c.is_sorted.ensures.0 c.if-not-is_sorted.false)

pub returns-then-not-is_sorted : goal.returns-then-not-is_sorted
returns-then-not-is_sorted c =
    first_without (ConditionIsSorted (meaning_of c.args.schema.now) c.args.select.now) c.args.select.now.conditions
    c.as_slice-condition-items.result.now c.loop-place.place c.condition-item.result c.as_slice-condition-items.ensures
    c.loop-place-test.true c.condition-item.is c.loop-place.invariant (denied _ c.is_sorted.ensures c.if-not-is_sorted.true)

pub returns : goal.returns
returns c =
    all_ones (ConditionIsSorted (meaning_of c.args.schema.now) c.args.select.now) c.args.select.now.conditions
    c.as_slice-condition-items.result.now c.loop-place.place c.as_slice-condition-items.ensures c.loop-place-test.false
    c.loop-place.invariant
