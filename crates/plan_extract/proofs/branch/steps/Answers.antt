use Rattle.std.proofs.Common.{◌≡◌, ◌∙◌, ◌+◌, List, ◌∷◌, drop, sym, ap, arith}
use Rattle.std.proofs.lemmas.List.{drop_more}
use Rattle.meaning.specs.declared.types.Step.{Step}
use Rattle.meaning.specs.Extract.{Exposure, all_columns, places_of, columns_after}
use Rattle.plan_extract.specs.Lent.{exposure_of, exposures_of, values_in}
use Rattle.plan_extract.proofs.Counting.{length-columns_after, step_of, one_more}
use Rattle.plan_extract.proofs.branch.steps.Goals as goal

pub loop-exposure-preserved : goal.loop-exposure-preserved
loop-exposure-preserved c =
    let left : List Exposure = exposures_of (drop c.loop-exposure.exposure-index c.args.exposures.now) in
    let rest : List Exposure = exposures_of (drop (c.loop-exposure.exposure-index + 1) c.args.exposures.now) in
    let e : Exposure = exposure_of c.exposure-item.result in
    let at : left ≡ e ∷ rest =
    ap exposures_of (drop_more c.args.exposures.now c.loop-exposure.exposure-index c.exposure-item.result c.loop-exposure-test.true)
    ∙ ap (λ lent. exposure_of lent ∷ rest) (sym c.exposure-item.is) in
    let places : c.in_ok-places.places ≡ places_of c.loop-exposure.columns e.fact.vals = c.in_ok-places.ensures.places ∙ ap (places_of c.loop-exposure.columns) c.as_slice.ensures in
    let grown : c.places.new.columns ≡ columns_after c.loop-exposure.columns e.fact.vals = c.in_ok-places.ensures.columns ∙ ap (columns_after c.loop-exposure.columns) c.as_slice.ensures in
    let step : Step = record { method = c.in_ok-method.method; places = c.in_ok-places.places } in
    let is : step ≡ step_of c.loop-exposure.columns e = λ i. record { method = c.in_ok-method.ensures i; places = places i } in
    record {
      steps = one_more _ c.loop-exposure.steps c.push.new.self c.loop-exposure.columns c.places.new.columns left rest e step c.loop-exposure.invariant.steps at is grown c.in_ok-push.ensures.ok;
      columns = c.loop-exposure.invariant.columns ∙ ap (all_columns c.loop-exposure.columns) at ∙ sym (ap (λ columns. all_columns columns rest) grown);
      few =
          let all = c.loop-exposure.invariant.few in
          let values = ap values_in at in
          let long = length-columns_after c.loop-exposure.columns e.fact.vals in
          rw grown (omega arith);
    }
