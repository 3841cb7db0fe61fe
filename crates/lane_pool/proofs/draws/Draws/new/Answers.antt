use Rattle.std.proofs.Common.{◌+◌, ◌≡◌, map, replicate, subst, sym, arith, All}
use Rattle.std.proofs.lemmas.List.Elements.{All-push}
use Rattle.lane_pool.specs.Core.{idle}
use Rattle.lane_pool.specs.Fields.{lane_of, IsRoomy}
use Rattle.lane_pool.proofs.DrawSteps.{new_kept, one_lane_more}
use Rattle.lane_pool.proofs.draws.Draws.new.Goals as goal

pub loop-preserved : goal.loop-preserved
loop-preserved c =
    let room = c.args.items + c.args.lanes in
    let p = c.push_reserved.ensures in
    let l = c.in_ok-new.field-0 in
    let is = c.loop.invariant in
    let new = c.in_ok-new.ensures in
    record {
      idle = subst (λ xs. map lane_of xs ≡ replicate (c.loop.counter + 1) idle) (sym p.items) (one_lane_more c.loop.counter c.loop.all.items l is.idle new.0);
      roomy = subst (λ xs. All (IsRoomy room) xs) (sym p.items) (All-push (IsRoomy room) c.loop.all.items l is.roomy new.1);
      len = omega arith;
      room = omega arith;
    }

pub invariant_of-result : goal.invariant_of-result
invariant_of-result c = new_kept (c.args.items + c.args.lanes) c.loop.counter c.loop.all.items c.loop.invariant.idle c.loop.invariant.roomy
