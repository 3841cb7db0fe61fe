use Rattle.std.proofs.Common.{◌≡◌, Some, length, take, sym, subst, arith}
use Rattle.std.specs.Prelude.{slice_get}
use Rattle.std.proofs.lemmas.List.{length-map, length-take-le}
use Rattle.lists.proofs.Members.{map_got}
use Rattle.lists.proofs.Places.{take_got, got_indexed}
use Rattle.meaning.specs.Extract.{Exposure}
use Rattle.plan_extract.specs.Lent.{exposure_of, exposures_of}
use Rattle.plan_extract.specs.Passes.{AreOrigins}
use Rattle.plan_extract.proofs.Noting.{Noted, origins_more}
use Rattle.plan_extract.proofs.origins.origins.Goals as goal

pub loop-number-preserved : goal.loop-number-preserved
loop-number-preserved c =
    let lent = c.args.exposures.now in
    let all = exposures_of lent in
    let n = c.loop-number.number in
    let x : Exposure = exposure_of c.index-exposures-number.result in
    let low = c.loop-number-test.true in
    let got : slice_get all n ≡ Some x = map_got exposure_of lent n c.index-exposures-number.result (got_indexed lent n c.index-exposures-number.result low c.index-exposures-number.is) in
    let long = length-map lent exposure_of in
    let whole : length (take n all) ≡ n = length-take-le n all (omega arith) in
    let vals : c.as_slice.result.now ≡ x.fact.vals = c.as_slice.ensures in
    let now = c.note_all.new.origins in
    let noted : Noted c.loop-number.origins now c.as_slice.result.now n = record { kept = c.in_ok-note_all.ensures.kept; all = c.in_ok-note_all.ensures.all; only = c.in_ok-note_all.ensures.only } in
    let there : Noted c.loop-number.origins now x.fact.vals (length (take n all)) = subst (λ k. Noted c.loop-number.origins now x.fact.vals k) (sym whole) (subst (λ vs. Noted c.loop-number.origins now vs n) vals noted) in
    subst (λ list. AreOrigins list now) (sym (take_got all n x got)) (origins_more (take n all) x c.loop-number.origins now c.loop-number.invariant there)
