use Rattle.plan_form.proofs.PrintLaws.{printed_again}
use Rattle.plan_form.proofs.laws.printed_plans_are_read.Goals as goal

pub returns : goal.returns
returns c = printed_again
