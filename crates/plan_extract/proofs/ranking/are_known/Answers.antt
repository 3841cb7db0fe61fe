use Rattle.std.proofs.Common.{arith}
use Rattle.std.proofs.lemmas.Option.{slice_get_within}
use Rattle.std.proofs.lemmas.List.{length-map}
use Rattle.lists.proofs.Members.{map_got}
use Rattle.lists.proofs.Places.{got_indexed}
use Rattle.plan_extract.specs.Lent.{exposure_of, exposures_of}
use Rattle.plan_extract.proofs.Knowing.{known_more}
use Rattle.plan_extract.proofs.AnyOrder.{known_by_origins}
use Rattle.plan_extract.proofs.ranking.are_known.Goals as goal

pub loop-number-init : goal.loop-number-init
loop-number-init c = λ k e low. absurd (omega arith)

pub loop-number-preserved : goal.loop-number-preserved
loop-number-preserved c =
    let lent = c.args.exposures.now in
    let n = c.loop-number.number in
    let x = c.index-exposures-number.result in
    known_more (exposures_of lent) c.in_ok-origins.origins n (exposure_of x) (map_got exposure_of lent n x (got_indexed lent n x c.loop-number-test.true c.index-exposures-number.is)) c.loop-number.invariant
    (c.inputs_known.ensures c.if-not-inputs_known.false)

pub returns : goal.returns
returns c = λ on.
    let lent = c.args.exposures.now in
    let end = c.loop-number-test.false in
    known_by_origins (exposures_of lent) c.in_ok-origins.origins c.in_ok-origins.ensures
    (λ k e got. let low = slice_get_within (exposures_of lent) k e got in
    let long = length-map lent exposure_of in
    c.loop-number.invariant k e (omega arith) got)
