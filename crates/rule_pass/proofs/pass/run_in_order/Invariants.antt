use Rattle.std.proofs.Common.{take, max, ◌≤◌, ◌+◌, ◌*◌}
use Rattle.access_schema.specs.declared.limits.TheConstants.{MOST_VARIABLES}
use Rattle.rule_pass.specs.States.{Goes}
use Rattle.rule_pass.specs.Passing.{AreMet}
use Rattle.rule_pass.proofs.pass.run_in_order.Given as goal

-- the rules so far are met
abbrev pub invariant-loop-place : goal.invariant-loop-place
invariant-loop-place g l = record {
  run : Goes g.L.Log.logged l.rules l.fn.state l.fn.log l.state l.log;
  met : AreMet l.rules l.state.facts (take l.place l.order);
  budget_kept : g.L.Log.size l.log ≤ max (g.L.Log.size l.fn.log) l.budget;
  labels_kept : l.state.next + g.L.Log.size l.fn.log * MOST_VARIABLES ≤ l.fn.state.next + g.L.Log.size l.log * MOST_VARIABLES;
}
