use Rattle.std.proofs.Common.{refl}
use Rattle.lists.proofs.Places.{got_indexed}
use Rattle.meaning.specs.Conjunctive.{ConditionIsSorted, SelectIsSorted}
use Rattle.access_schema.specs.Meaning.{meaning_of}
use Rattle.sql_select.proofs.Sorted.{before_more, all_ones, raw_there, condition_there, first_unsorted}
use Rattle.sql_select.proofs.sorts.unsorted_offset.Goals as goal

pub bounds-raws-number : goal.bounds-raws-number
bounds-raws-number c =
    raw_there (meaning_of c.args.schema.now) c.args.raws.now c.args.selects.now c.loop-number.number c.requires
    c.loop-number-test.true

pub condition_start-requires : goal.condition_start-requires
condition_start-requires c =
    let low = raw_there (meaning_of c.args.schema.now) c.args.raws.now c.args.selects.now c.loop-number.number c.requires
    c.loop-number-test.true in
    let written = got_indexed c.args.raws.now c.loop-number.number c.index-raws-number.result low c.index-raws-number.is in
    let at = got_indexed c.args.selects.now c.loop-number.number c.index-selects-number.result c.loop-number-test.true
    c.index-selects-number.is in
    condition_there c.args.raws.now c.args.selects.now c.loop-number.number c.index-raws-number.result c.index-selects-number.result
    (ConditionIsSorted (meaning_of c.args.schema.now) c.index-selects-number.result) c.in-Some.place c.requires written at
    (rw c.in-Some.is at c.unsorted_place.ensures)

pub returns-in-Some : goal.returns-in-Some
returns-in-Some c =
    let low = raw_there (meaning_of c.args.schema.now) c.args.raws.now c.args.selects.now c.loop-number.number c.requires
    c.loop-number-test.true in
    let written = got_indexed c.args.raws.now c.loop-number.number c.index-raws-number.result low c.index-raws-number.is in
    let at = got_indexed c.args.selects.now c.loop-number.number c.index-selects-number.result c.loop-number-test.true
    c.index-selects-number.is in
    first_unsorted (meaning_of c.args.schema.now) c.args.raws.now c.args.selects.now c.loop-number.number
    c.index-raws-number.result c.index-selects-number.result c.in-Some.place c.condition_start.result written at
    c.loop-number.invariant (rw c.in-Some.is at c.unsorted_place.ensures) c.condition_start.ensures

pub loop-number-preserved : goal.loop-number-preserved
loop-number-preserved c =
    before_more (SelectIsSorted (meaning_of c.args.schema.now)) c.args.selects.now c.args.selects.now c.loop-number.number
    c.index-selects-number.result refl c.loop-number-test.true c.index-selects-number.is c.loop-number.invariant
    (rw c.in_default.is at c.unsorted_place.ensures)

pub returns : goal.returns
returns c =
    all_ones (SelectIsSorted (meaning_of c.args.schema.now)) c.args.selects.now c.args.selects.now c.loop-number.number
    refl c.loop-number-test.false c.loop-number.invariant
