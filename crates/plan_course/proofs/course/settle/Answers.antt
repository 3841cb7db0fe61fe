use Rattle.std.proofs.Common.{◌≡◌, ◌∙◌, ℕ, ◌+◌, ◌≤◌, List, Some, length, refl, sym, ap, arith}
use Rattle.std.specs.Prelude.{slice_get}
use Rattle.std.proofs.lemmas.Option.{slice_get_read}
use Rattle.meaning.specs.declared.types.Branch.{Branch}
use Rattle.plan_course.proofs.Numbers.{none_got}
use Rattle.plan_course.proofs.Standing.{no_step, passed_knows, passed_same, passed_stands, stands_at}
use Rattle.plan_course.proofs.course.settle.Goals as goal

pub loop-number-preserved : goal.loop-number-preserved
loop-number-preserved c =
    let plan = c.args.plan.now in
    let its = c.index-branches-number.result in
    let old = c.loop-number.reached in
    let new = c.in_ok-reached.reached in
    let inv = c.loop-number.invariant in
    let got : slice_get c.as_slice-branches.result.now c.loop-number.number ≡ Some its =
    slice_get_read c.as_slice-branches.result.now _ c.loop-number.number its refl (omega arith) c.index-branches-number.is in
    let at : slice_get plan.branches old.branch ≡ Some its =
    ap (slice_get plan.branches) inv.place
    ∙ ap (λ (l : List Branch). slice_get l c.loop-number.number) (sym c.as_slice-branches.ensures) ∙ got in
    let within = stands_at plan old its at inv.stands in
    let done : old.step ≡ length its.steps = let l = within.within in omega arith in record {
      stands = passed_stands plan its old new at c.in_ok-reached.ensures done;
      place = c.in_ok-reached.ensures.branch_is ∙ ap (λ (n : ℕ). n + 1) inv.place;
      same = passed_same plan its old new at c.in_ok-reached.ensures done ∙ inv.same;
      knows = λ schema facts well ready k.
          passed_knows plan its old new at c.in_ok-reached.ensures done within schema facts well ready
          (inv.knows schema facts well ready k);
    }

pub returns-clause-settles : goal.returns-clause-settles
returns-clause-settles c =
    let plan = c.args.plan.now in
    let inv = c.loop-number.invariant in
    let over : length plan.branches ≤ c.loop-number.reached.branch =
    let place = inv.place in let long = ap length c.as_slice-branches.ensures in omega (arith, place, long) in record {
      stands = inv.stands;
      has_step = no_step c.loop-number.reached (slice_get plan.branches c.loop-number.reached.branch)
          (none_got plan.branches c.loop-number.reached.branch over);
      same = inv.same;
    }
