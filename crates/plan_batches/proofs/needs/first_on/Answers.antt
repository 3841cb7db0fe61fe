use Rattle.std.proofs.Common.{arith}
use Rattle.std.specs.Prelude.{Contains}
use Rattle.plan_batches.specs.declared.needs.Accessed.{Accessed}
use Rattle.plan_batches.proofs.Listing.{first_accessed, found_in, none_at_all, none_more, not_found_in}
use Rattle.plan_batches.proofs.needs.first_on.Goals as goal

pub returns-then-contains : goal.returns-then-contains
returns-then-contains c =
    first_accessed c.args.each.now c.loop-one.one-index c.loop-one.number c.args.rel c.one-item.result (omega arith) c.one-item.is c.loop-one.invariant.number
    (found_in c.args.rel c.one-item.result.rels.items c.as_slice.result.now c.contains.result c.as_slice.ensures.value c.contains.ensures.value c.if-contains.true)
    c.loop-one.invariant.before

pub loop-one-preserved : goal.loop-one-preserved
loop-one-preserved c = record {
  number = let same = c.loop-one.invariant.number in omega (arith, same);
  before = none_more (λ (a : Accessed). Contains a.rels.items c.args.rel) c.args.each.now c.loop-one.one-index c.one-item.result (omega arith) c.one-item.is
      c.loop-one.invariant.before
      (not_found_in c.args.rel c.one-item.result.rels.items c.as_slice.result.now c.contains.result c.as_slice.ensures.value c.contains.ensures.value c.if-contains.false);
}

pub unreachable-requires : goal.unreachable-requires
unreachable-requires c =
    let (one, among, has) = c.requires.some in
    none_at_all (λ (a : Accessed). Contains a.rels.items c.args.rel) c.args.each.now c.loop-one.one-index c.loop-one-test.false c.loop-one.invariant.before one among has
