use Rattle.rule_pass.proofs.OnePass.{goes_run}
use Rattle.rule_pass.proofs.pass.run_rules.Goals as goal

pub returns-in_err-run_in_order-clause-run : goal.returns-in_err-run_in_order-clause-run
returns-in_err-run_in_order-clause-run c = goes_run c.args.rules.now c.args.state.now c.run_in_order.new.state c.args.log.now c.run_in_order.new.log c.requires.empty c.in_err-run_in_order.ensures.run

pub returns-clause-run : goal.returns-clause-run
returns-clause-run c = goes_run c.args.rules.now c.args.state.now c.run_in_order.new.state c.args.log.now c.run_in_order.new.log c.requires.empty c.in_ok-run_in_order.ensures.run
