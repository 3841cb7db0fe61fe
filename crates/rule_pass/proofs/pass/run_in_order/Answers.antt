use Rattle.std.proofs.Common.{ap, subst, Ok, arith}
use Rattle.std.proofs.lemmas.List.{take_all}
use Rattle.rule_pass.specs.Passing.{AreMet}
use Rattle.rule_pass.proofs.OnePass.{goes_on, met_all, met_quiet}
use Rattle.rule_pass.proofs.pass.run_in_order.Goals as goal

pub returns-in_err-run_rule-clause-run : goal.returns-in_err-run_rule-clause-run
returns-in_err-run_rule-clause-run g c = goes_on g.L.Log.logged c.args.rules.now c.args.state.now c.loop-place.state c.run_rule.new.state c.args.log.now c.loop-place.log c.run_rule.new.log c.loop-place.invariant.run c.in_err-run_rule.ensures.run

pub returns-in-Spent-clause-run : goal.returns-in-Spent-clause-run
returns-in-Spent-clause-run g c = goes_on g.L.Log.logged c.args.rules.now c.args.state.now c.loop-place.state c.run_rule.new.state c.args.log.now c.loop-place.log c.run_rule.new.log c.loop-place.invariant.run c.in_ok-run_rule.ensures.run

pub loop-place-preserved : goal.loop-place-preserved
loop-place-preserved g c = record {
  run = goes_on g.L.Log.logged c.args.rules.now c.args.state.now c.loop-place.state c.run_rule.new.state c.args.log.now c.loop-place.log c.run_rule.new.log c.loop-place.invariant.run c.in_ok-run_rule.ensures.run;
  met = c.in_ok-run_rule.ensures.ended (ap Ok c.in_default.is);
  budget_kept = let a = c.in_ok-run_rule.ensures.budget in let b = c.loop-place.invariant.budget_kept in omega arith;
  labels_kept = let a = c.in_ok-run_rule.ensures.labels in let b = c.loop-place.invariant.labels_kept in omega arith;
}

pub returns-clause-met : goal.returns-clause-met
returns-clause-met g c = λ e. met_all c.args.rules.now c.args.order.now c.loop-place.state.facts c.requires.ordered
    (subst (AreMet c.args.rules.now c.loop-place.state.facts) (take_all c.loop-place.place c.args.order.now c.loop-place-test.false) c.loop-place.invariant.met)

pub returns-clause-ended : goal.returns-clause-ended
returns-clause-ended g c = λ e. met_quiet c.args.rules.now c.loop-place.state (met_all c.args.rules.now c.args.order.now c.loop-place.state.facts c.requires.ordered
    (subst (AreMet c.args.rules.now c.loop-place.state.facts) (take_all c.loop-place.place c.args.order.now c.loop-place-test.false) c.loop-place.invariant.met))
