use Rattle.std.proofs.Common.{◌≡◌, Some, take, sym, subst}
use Rattle.std.specs.Prelude.{Contains, slice_get}
use Rattle.std.proofs.lemmas.List.{take_all}
use Rattle.meaning.specs.declared.types.Val.TheVariants.{Label}
use Rattle.plan_extract.proofs.Knowing.{passed_none, passed_more}
use Rattle.plan_extract.proofs.ranking.inputs_known.Goals as goal

pub loop-place-init : goal.loop-place-init
loop-place-init c = passed_none c.args.origins.now c.as_slice-vals.result.now c.args.number

pub loop-place-preserved : goal.loop-place-preserved
loop-place-preserved c =
    passed_more c.args.origins.now c.as_slice-vals.result.now c.args.number c.as_slice-inputs.result.now c.loop-place.place-index c.loop-place-test.true c.loop-place.invariant (c.is_known.ensures c.if-not-is_known.false)

pub returns : goal.returns
returns c = λ on place label among has.
    let inputs = c.as_slice-inputs.result.now in
    let whole : take c.loop-place.place-index inputs ≡ inputs = take_all c.loop-place.place-index inputs c.loop-place-test.false in
    c.loop-place.invariant place label (subst (λ ps. Contains ps place) (sym whole) (subst (λ ps. Contains ps place) (sym c.as_slice-inputs.ensures) among))
    (subst (λ vals. slice_get vals place ≡ Some (Label label)) (sym c.as_slice-vals.ensures) has)
