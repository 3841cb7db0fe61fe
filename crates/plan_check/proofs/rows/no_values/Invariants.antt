use Rattle.std.proofs.Common.{◌≡◌, ◌≤◌, replicate}
use Rattle.std.specs.Prelude.{None}
use Rattle.plan_check.proofs.rows.no_values.Given as goal

abbrev pub invariant-loop : goal.invariant-loop
invariant-loop l = (l.given.items ≡ replicate l.counter None) × (l.counter ≤ l.count)
