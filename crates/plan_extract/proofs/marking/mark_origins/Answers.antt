use Rattle.std.proofs.Common.{◌≡◌, ◌∙◌, ◌-◌, ◌<◌, Some, false, ap, arith}
use Rattle.std.specs.Prelude.{slice_get}
use Rattle.std.proofs.lemmas.List.{length-map}
use Rattle.std.proofs.lemmas.Option.{slice_get-get_or, slice_get_within}
use Rattle.lists.proofs.Members.{map_got, got_below}
use Rattle.lists.proofs.Places.{got_indexed}
use Rattle.meaning.specs.Extract.{Exposure}
use Rattle.plan_extract.specs.Lent.{exposure_of, exposures_of}
use Rattle.plan_extract.specs.Passes.{IsMarked}
use Rattle.plan_extract.proofs.Marked.{close_skip, close_held, close_keep}
use Rattle.plan_extract.proofs.marking.mark_origins.Goals as goal

pub mark_inputs-requires : goal.mark_inputs-requires
mark_inputs-requires c label number noted =
    let (e, first) = c.requires.origins.each label number noted in
    let low = slice_get_within (exposures_of c.args.exposures.now) number e first.at in
    let lent = length-map c.args.exposures.now exposure_of in
    let long = c.requires.long in
    let same = c.loop-left.auto.marks in
    omega arith

pub loop-left-preserved : goal.loop-left-preserved
loop-left-preserved c =
    let lent = length-map c.args.exposures.now exposure_of in
    let long = c.requires.long in
    let same = c.loop-left.auto.marks in
    let within = c.loop-left.invariant.within in
    let low : 0 < c.loop-left.left = c.loop-left-test.true in
    let (e, got) = got_below (exposures_of c.args.exposures.now) (c.loop-left.left - 1) (omega arith) in
    let off : slice_get c.loop-left.marks (c.loop-left.left - 1) ≡ Some false = slice_get-get_or c.loop-left.marks (c.loop-left.left - 1) false (omega arith) ∙ ap (λ b. Some b) c.if-marks-left.false in
    record {
      within = omega arith;
      held = c.loop-left.invariant.held;
      closed = close_skip (exposures_of c.args.exposures.now) c.args.origins.now c.requires.origins c.loop-left.left low e got c.loop-left.marks off c.loop-left.invariant.closed;
    }

pub loop-left-preserved-then-marks-left : goal.loop-left-preserved-then-marks-left
loop-left-preserved-then-marks-left c =
    let all = exposures_of c.args.exposures.now in
    let lent = length-map c.args.exposures.now exposure_of in
    let long = c.requires.long in
    let same = c.loop-left.auto.marks in
    let within = c.loop-left.invariant.within in
    let low : 0 < c.loop-left.left = c.loop-left-test.true in
    let e : Exposure = exposure_of c.index-exposures-left.result in
    let got : slice_get all (c.loop-left.left - 1) ≡ Some e =
    map_got exposure_of c.args.exposures.now (c.loop-left.left - 1) c.index-exposures-left.result (got_indexed c.args.exposures.now (c.loop-left.left - 1) c.index-exposures-left.result (omega arith) c.index-exposures-left.is) in
    let on : IsMarked c.loop-left.marks (c.loop-left.left - 1) = slice_get-get_or c.loop-left.marks (c.loop-left.left - 1) false (omega arith) ∙ ap (λ b. Some b) c.if-marks-left.true in
    record {
      within = omega arith;
      held = λ wanted held. close_held all c.args.origins.now c.requires.origins c.loop-left.left low e got c.loop-left.marks c.mark_inputs.new.marks on c.mark_inputs.ensures.stays c.mark_inputs.ensures.all c.mark_inputs.ensures.only c.mark_inputs.auto.marks wanted (c.loop-left.invariant.held wanted held);
      closed = close_keep all c.args.origins.now c.requires.origins c.loop-left.left low e got c.loop-left.marks c.mark_inputs.new.marks on c.mark_inputs.ensures.stays c.mark_inputs.ensures.all c.mark_inputs.ensures.only c.loop-left.invariant.closed;
    }
