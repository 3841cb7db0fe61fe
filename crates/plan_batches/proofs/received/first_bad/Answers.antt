use Rattle.std.proofs.Common.{◌++◌, arith}
use Rattle.lists.proofs.Members.{contains_got}
use Rattle.lists.proofs.Places.{got_indexed}
use Rattle.plan_batches.specs.Receiving.{HasIntegers}
use Rattle.plan_batches.proofs.Listing.{each_more, each_of_all, first_received}
use Rattle.plan_batches.proofs.received.first_bad.Goals as goal

pub bad_of-requires : goal.bad_of-requires
bad_of-requires c = λ number among.
    c.requires.numbers c.going-item.result number
    (contains_got c.args.goings.now c.loop-going.going-index c.going-item.result
    (got_indexed c.args.goings.now c.loop-going.going-index c.going-item.result (omega arith) c.going-item.is)) among

pub returns-in-Some : goal.returns-in-Some
returns-in-Some c =
    first_received c.args.schema.now (c.args.kept.now ++ c.args.round.now) c.args.goings.now c.loop-going.going-index c.loop-going.plan
    c.going-item.result (omega arith) c.going-item.is c.loop-going.invariant.plan c.loop-going.invariant.before
    c.in-Some.field-0.rel c.in-Some.field-0.column c.in-Some.ensures

pub loop-going-preserved : goal.loop-going-preserved
loop-going-preserved c = record {
  plan = let same = c.loop-going.invariant.plan in omega (arith, same);
  before = each_more (HasIntegers c.args.schema.now (c.args.kept.now ++ c.args.round.now)) c.args.goings.now c.loop-going.going-index
      c.going-item.result (omega arith) c.going-item.is c.loop-going.invariant.before c.in-None.ensures;
}

pub returns : goal.returns
returns c = each_of_all (HasIntegers c.args.schema.now (c.args.kept.now ++ c.args.round.now)) c.args.goings.now c.loop-going.going-index
    c.loop-going-test.false c.loop-going.invariant.before
