use Rattle.std.proofs.Common.{◌≡◌, ◌+◌, ◌≤◌, length}
use Rattle.std.specs.Prelude.{filter}
use Rattle.access_schema.specs.Faults.{is_method}
use Rattle.access_schema.proofs.part_limits.count_methods.Given as goal

-- the count is that of the parts that were passed
abbrev pub invariant-loop-left : goal.invariant-loop-left
invariant-loop-left l = record { sum : length (filter is_method l.parts) ≡ l.count + length (filter is_method l.left); fits : l.count + length l.left ≤ length l.parts }

abbrev pub decreases-loop-left : goal.decreases-loop-left
decreases-loop-left l = length l.left
