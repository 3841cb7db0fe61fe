use Rattle.std.proofs.Common.{arith, ap, ◌∙◌, ◌+◌, length, take, List}
use Rattle.meaning.specs.declared.types.Branch.{Branch}
use Rattle.shared_rounds.specs.SharedRounds.{steps_in}
use Rattle.plan_course.proofs.Numbers.{steps_counted, steps_fit, count_more}
use Rattle.plan_course.proofs.counting.count_steps.Goals as goal

pub overflow_add-count : goal.overflow_add-count
overflow_add-count c =
    let same = c.as_slice-branch-items.ensures in
    let more = count_more c.as_slice-branch-items.result.now c.loop-branch.branch-index c.branch-item.result (omega arith) c.branch-item.is c.loop-branch.count c.loop-branch.invariant in
    let fit = steps_fit c.args.plan.now c.requires (c.loop-branch.branch-index + 1) in
    let here = ap (λ (l : List Branch). steps_in (take (c.loop-branch.branch-index + 1) l)) same in
    let long = ap length c.as_slice.ensures in
    omega (arith, more, fit, here, long)

pub loop-branch-preserved : goal.loop-branch-preserved
loop-branch-preserved c =
    let more = count_more c.as_slice-branch-items.result.now c.loop-branch.branch-index c.branch-item.result (omega arith) c.branch-item.is c.loop-branch.count c.loop-branch.invariant in
    let long = ap length c.as_slice.ensures in
    omega (arith, more, long)

pub returns : goal.returns
returns c =
    let same = c.as_slice-branch-items.ensures in
    let long = ap length same in
    let over = c.loop-branch-test.false in
    steps_counted c.args.plan.now c.loop-branch.branch-index (omega (arith, long, over)) c.loop-branch.count
    (c.loop-branch.invariant ∙ ap (λ (l : List Branch). steps_in (take c.loop-branch.branch-index l)) same)
