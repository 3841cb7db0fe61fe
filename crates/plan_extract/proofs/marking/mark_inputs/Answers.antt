use Rattle.std.proofs.Common.{◌≡◌, ◌+◌, [], take, get_or, sym, subst, inl, inr, ⊎_elim, arith}
use Rattle.std.specs.Prelude.{Contains}
use Rattle.std.proofs.lemmas.List.{take_all}
use Rattle.plan_extract.specs.Passes.{IsOriginAt}
use Rattle.plan_extract.proofs.Marked.{InputsFront, input_some, input_none}
use Rattle.plan_extract.proofs.marking.mark_inputs.Goals.{in-Some, in_default}
use Rattle.plan_extract.proofs.marking.mark_inputs.Goals as goal

pub loop-place-init : goal.loop-place-init
loop-place-init c = record { stays = λ k m. m; all = λ place number among origin. absurd (let none : Contains [] place = among in omega arith); only = λ k m. inl m }

pub loop-place-preserved : goal.loop-place-preserved
loop-place-preserved c =
    let i = c.loop-place.place-index in
    let inputs = c.as_slice-inputs.result.now in
    let vals = c.as_slice-vals.result.now in
    elim c.match-origin_at.branch [
      | in-Some w ↦
          let here : IsOriginAt c.args.origins.now vals (get_or inputs i 0) w.in-Some.number = w.in-Some.ensures.some in
          let low = c.requires here.0 w.in-Some.number here.2 in
          let long = c.loop-place.auto.marks in
          subst (λ marks. InputsFront c.args.marks.now marks c.args.origins.now vals (take (i + 1) inputs) inputs) (sym w.marks-is)
          (input_some c.args.marks.now c.loop-place.marks c.args.origins.now vals inputs i c.loop-place-test.true c.loop-place.invariant w.in-Some.number (omega arith) here)
      | in_default w ↦
          subst (λ marks. InputsFront c.args.marks.now marks c.args.origins.now vals (take (i + 1) inputs) inputs) (sym w.marks-is)
          (input_none c.args.marks.now c.loop-place.marks c.args.origins.now vals inputs i c.loop-place-test.true c.loop-place.invariant w.in_default.ensures.none)
    ]

pub returns-clause-stays : goal.returns-clause-stays
returns-clause-stays c = c.loop-place.invariant.stays

pub returns-clause-all : goal.returns-clause-all
returns-clause-all c place number input origin =
    let inputs = c.as_slice-inputs.result.now in
    let whole : take c.loop-place.place-index inputs ≡ inputs = take_all c.loop-place.place-index inputs c.loop-place-test.false in
    c.loop-place.invariant.all place number (subst (λ ps. Contains ps place) (sym whole) (subst (λ ps. Contains ps place) (sym c.as_slice-inputs.ensures) input))
    (subst (λ vs. IsOriginAt c.args.origins.now vs place number) (sym c.as_slice-vals.ensures) origin)

pub returns-clause-only : goal.returns-clause-only
returns-clause-only c k marked =
    ⊎_elim (λ old. inl old) (λ (place, input, origin). inr (place, subst (λ ps. Contains ps place) c.as_slice-inputs.ensures input, subst (λ vs. IsOriginAt c.args.origins.now vs place k) c.as_slice-vals.ensures origin)) (c.loop-place.invariant.only k marked)
