use Rattle.std.proofs.Common.{◌≢◌, ◌<◌, ℕ, slice_get, Some}
use Rattle.access_schema.specs.Names.{method_names}
use Rattle.access_schema.proofs.schema.Schema.method.Given as goal

abbrev pub invariant-loop-number : goal.invariant-loop-number
invariant-loop-number l = (k : ℕ) → k < l.number → slice_get (method_names l.method-items) k ≢ Some l.name
