use Rattle.std.proofs.Common.{◌≡◌, ◌+◌, Some, sym, subst, arith}
use Rattle.std.specs.Prelude.{slice_get}
use Rattle.std.proofs.lemmas.List.{length-map}
use Rattle.lists.proofs.Members.{map_got}
use Rattle.lists.proofs.Places.{got_indexed}
use Rattle.meaning.specs.Extract.{Exposure}
use Rattle.plan_extract.specs.Lent.{exposure_of, exposures_of}
use Rattle.plan_extract.proofs.Marked.{MarksFront, front_more, front_all}
use Rattle.plan_extract.proofs.marking.wanted_marks.Goals as goal

pub loop-exposure-preserved : goal.loop-exposure-preserved
loop-exposure-preserved c =
    let lent = c.args.exposures.now in
    let all = exposures_of lent in
    let n = c.loop-exposure.exposure-index in
    let x : Exposure = exposure_of c.exposure-item.result in
    let got : slice_get all n ≡ Some x = map_got exposure_of lent n c.exposure-item.result (got_indexed lent n c.exposure-item.result c.loop-exposure-test.true c.exposure-item.is) in
    subst (MarksFront all c.args.wanted.now (n + 1)) (sym c.in_ok-push.ensures.items)
    (front_more all c.args.wanted.now n c.loop-exposure.marks.items x c.contains.result got c.contains.ensures.0 c.contains.ensures.1 c.loop-exposure.invariant)

pub returns : goal.returns
returns c =
    let long = length-map c.args.exposures.now exposure_of in
    let t = c.loop-exposure-test.false in
    let a = c.loop-exposure.auto.exposure-index-end in
    front_all (exposures_of c.args.exposures.now) c.args.wanted.now c.loop-exposure.exposure-index c.loop-exposure.marks.items (omega arith) c.loop-exposure.invariant
