use Rattle.std.proofs.Common.{arith, ap, ◌∙◌, ◌++◌, List, ℕ}
use Rattle.plan_batches.proofs.Listing.{stands_all, stands_more}
use Rattle.plan_batches.proofs.needs.joined.Goals as goal

pub loop-one-preserved : goal.loop-one-preserved
loop-one-preserved c =
    stands_more c.args.each.now c.loop-one.one-index c.one-item.result (omega arith) c.one-item.is c.loop-one.rels.items c.extend_from_slice.new.self.items
    (c.in_ok-extend_from_slice.ensures.items ∙ ap (λ (l : List ℕ). c.loop-one.rels.items ++ l) c.as_slice.ensures.value) c.loop-one.invariant

pub returns : goal.returns
returns c = stands_all c.args.each.now c.loop-one.one-index c.loop-one-test.false c.loop-one.rels.items c.loop-one.invariant
