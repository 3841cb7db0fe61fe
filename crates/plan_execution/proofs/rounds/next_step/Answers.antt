use Rattle.plan_execution.proofs.Stepping.{not_done}
use Rattle.plan_execution.proofs.rounds.next_step.Goals as goal

pub unreachable-requires : goal.unreachable-requires
unreachable-requires c =
    let (n, at, less) = c.requires.at in
    not_done c.args.plan.now c.args.course n at less (rw c.in-Ok-Done.field-0-is at c.in-Ok-Done.ensures.goes).1

pub returns-in-Ok-Wants : goal.returns-in-Ok-Wants
returns-in-Ok-Wants c = record {
  is = rw c.in-Ok-Wants.field-0-is at c.in-Ok-Wants.ensures.goes;
  turn = rw c.in-Ok-Wants.field-0-is at c.in-Ok-Wants.ensures.turns;
  of_turn = rw c.in-Ok-Wants.field-0-is at c.in-Ok-Wants.ensures.of_step;
  count = c.len-wanted.ensures;
}
