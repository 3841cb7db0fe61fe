use Rattle.plan_execution.proofs.Stepping.{both_ok}
use Rattle.plan_execution.proofs.rounds.fn.all_rounds.go_on.Goals as goal

pub returns : goal.returns
returns c = both_ok c.take.result (λ next at knows. record { at = at; knows = knows }) c.take.ensures.at c.take.ensures.knows
