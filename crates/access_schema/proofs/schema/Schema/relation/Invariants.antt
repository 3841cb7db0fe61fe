use Rattle.std.proofs.Common.{◌≢◌, ◌<◌, ℕ, slice_get, Some}
use Rattle.access_schema.specs.Names.{relation_names}
use Rattle.access_schema.proofs.schema.Schema.relation.Given as goal

abbrev pub invariant-loop-number : goal.invariant-loop-number
invariant-loop-number l = (k : ℕ) → k < l.number → slice_get (relation_names l.relation-items) k ≢ Some l.name
