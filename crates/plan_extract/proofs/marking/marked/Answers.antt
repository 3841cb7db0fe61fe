use Rattle.std.proofs.Common.{◌≡◌, drop, length, sym, subst, arith}
use Rattle.std.proofs.lemmas.List.{take_at}
use Rattle.plan_extract.specs.Lent.{exposures_of}
use Rattle.plan_extract.specs.Passes.{AreMarked, HoldsWanted}
use Rattle.plan_extract.proofs.marking.marked.Goals as goal

pub returns : goal.returns
returns c =
    let all = exposures_of c.args.exposures.now in
    let new = c.mark_origins.new.marks in
    let old : HoldsWanted all c.args.wanted.now c.in_ok-marks.marks.items = c.in_ok-marks.ensures in
    let same : c.as_mut_slice.result.now ≡ c.in_ok-marks.marks.items = c.as_mut_slice.ensures.value in
    let kept = c.mark_origins.auto.marks in
    let len = c.as_mut_slice.ensures.len in
    let long : length new ≡ c.in_ok-marks.marks.len = omega arith in
    subst (AreMarked all c.args.wanted.now) (sym (take_at new (drop (length new) c.in_ok-marks.marks.items) c.in_ok-marks.marks.len long))
    (record {
      held = c.mark_origins.ensures.held c.args.wanted.now (subst (HoldsWanted all c.args.wanted.now) (sym same) old);
      closed = c.mark_origins.ensures.closed;
    })
