use Rattle.plan_form.proofs.FirstFaults.{exact_is, first_is}
use Rattle.plan_form.proofs.judge.lawful.Goals as goal

pub returns-clause-exact : goal.returns-clause-exact
returns-clause-exact c = exact_is c.args.schema.now c.args.known.now c.args.plan.now c.judge_plan.result (rw c.new.ensures at c.judge_plan.ensures)

pub returns-clause-first : goal.returns-clause-first
returns-clause-first c = first_is c.args.schema.now c.args.known.now c.args.plan.now c.judge_plan.result (rw c.new.ensures at c.judge_plan.ensures)
