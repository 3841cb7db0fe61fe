use Rattle.explain.proofs.Entries.{planned_again}
use Rattle.explain.proofs.laws.printed_plans_say_the_plan.Goals as goal

pub returns : goal.returns
returns c = planned_again
