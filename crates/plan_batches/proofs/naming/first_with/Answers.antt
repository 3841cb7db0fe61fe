use Rattle.std.proofs.Common.{arith}
use Rattle.std.specs.Prelude.{Contains}
use Rattle.plan_batches.specs.declared.member.Going.{Going}
use Rattle.plan_batches.proofs.Listing.{first_going, found_in, none_at_all, none_more, not_found_in}
use Rattle.plan_batches.proofs.naming.first_with.Goals as goal

pub returns-then-contains : goal.returns-then-contains
returns-then-contains c =
    first_going c.args.goings.now c.loop-going.going-index c.loop-going.plan c.args.number c.going-item.result (omega arith) c.going-item.is c.loop-going.invariant.plan
    (found_in c.args.number c.going-item.result.numbers.items c.as_slice.result.now c.contains.result c.as_slice.ensures.value c.contains.ensures.value c.if-contains.true)
    c.loop-going.invariant.before

pub loop-going-preserved : goal.loop-going-preserved
loop-going-preserved c = record {
  plan = let same = c.loop-going.invariant.plan in omega (arith, same);
  before = none_more (λ (g : Going). Contains g.numbers.items c.args.number) c.args.goings.now c.loop-going.going-index c.going-item.result (omega arith) c.going-item.is
      c.loop-going.invariant.before
      (not_found_in c.args.number c.going-item.result.numbers.items c.as_slice.result.now c.contains.result c.as_slice.ensures.value c.contains.ensures.value c.if-contains.false);
}

pub unreachable-requires : goal.unreachable-requires
unreachable-requires c =
    let (going, among, has) = c.requires in
    none_at_all (λ (g : Going). Contains g.numbers.items c.args.number) c.args.goings.now c.loop-going.going-index c.loop-going-test.false c.loop-going.invariant.before going among has
