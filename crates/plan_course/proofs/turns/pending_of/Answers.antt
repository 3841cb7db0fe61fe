use Rattle.std.proofs.Common.{◌≡◌, ◌∙◌, ℕ, List, Some, length, refl, sym, ap, subst, arith}
use Rattle.std.specs.Prelude.{slice_get}
use Rattle.std.proofs.lemmas.Option.{slice_get_read}
use Rattle.meaning.specs.declared.types.Method.{Method}
use Rattle.meaning.specs.declared.types.Place.{Place}
use Rattle.meaning.specs.declared.types.Step.{Step}
use Rattle.meaning.specs.Plans.{IsMethod}
use Rattle.access_schema.specs.Meaning.{meaning_of}
use Rattle.middleware.specs.BlockRounds.{Asks}
use Rattle.middleware.specs.Rounds.{IsWanted}
use Rattle.plan_course.proofs.turns.pending_of.Goals as goal

pub method_of-method-requires : goal.method_of-method-requires
method_of-method-requires c =
    let step = c.index-steps-place.result in
    let long = ap length c.as_slice-steps.ensures in
    let at : slice_get c.args.branch.now.steps c.args.course.step ≡ Some step =
    ap (λ (l : List Step). slice_get l c.args.course.step) (sym c.as_slice-steps.ensures)
    ∙ slice_get_read c.as_slice-steps.result.now _ c.args.course.step step refl (omega (arith, long, c.requires.left))
    c.index-steps-place.is in
    let ready = c.requires.ready.steps c.args.course.step step at in
    (ready.method, ready.named)

pub returns : goal.returns
returns c =
    let step = c.index-steps-place.result in
    let long = ap length c.as_slice-steps.ensures in
    let method = c.method_of-method.result.now in
    let copy = c.in_ok-copy_of.field-0 in
    let asking = c.in_ok-asking.asking in
    let wanted = c.in_ok-wanted.wanted in record {
      step = step;
      of_branch = ap (λ (l : List Step). slice_get l c.args.course.step) (sym c.as_slice-steps.ensures)
          ∙ slice_get_read c.as_slice-steps.result.now _ c.args.course.step step refl (omega (arith, long, c.requires.left))
          c.index-steps-place.is;
      named = subst (λ (m : Method). IsMethod (meaning_of c.args.schema.now) step.method m) (sym c.in_ok-copy_of.ensures)
          c.method_of-method.ensures;
      wanted = subst (λ (m : Method). IsWanted asking.step.places m.inputs wanted.rows wanted.requests) (sym c.in_ok-copy_of.ensures)
          (subst (λ (l : List ℕ). IsWanted asking.step.places l wanted.rows wanted.requests) c.as_slice-2.ensures
          (subst (λ (l : List Place). IsWanted l c.as_slice-2.result.now wanted.rows wanted.requests) c.as_slice.ensures
          c.in_ok-wanted.ensures.wanted));
      ready = c.requires.ready;
      stands = c.requires.stands;
      asking = asking;
      asks = subst (λ (m : Method). Asks step m.inputs c.args.course.count c.args.course.blocks.items asking)
          (sym c.in_ok-copy_of.ensures) c.in_ok-asking.ensures;
      same = c.in_ok-wanted.ensures.same;
      places_are = refl;
      columns_are = refl;
      count_is = refl;
      rest_are = refl;
      branch_is = refl;
      step_is = refl;
      rows_are = refl;
    }
