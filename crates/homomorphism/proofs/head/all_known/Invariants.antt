use Rattle.std.proofs.Common.{◌≡◌, ◌<◌, ◌≤◌, ℕ, Some, None, length, slice_get}
use Rattle.homomorphism.proofs.head.all_known.Given as goal

abbrev pub invariant-loop-variable : goal.invariant-loop-variable
invariant-loop-variable l = record {
  count : length l.values ≡ l.variable;
  free : (x : ℕ) → l.body ≤ x → x < l.variable → slice_get l.values x ≡ Some None;
}
