use Rattle.std.proofs.Common.{◌≡◌, ◌≤◌, ◌++◌, length}
use Rattle.source_trait.specs.RequestLog.{requests_in, shapes_of, width_of}
use Rattle.source_trait.proofs.request_log.requests_of.Given as goal

-- the requests so far and those that are left are all
abbrev pub invariant-loop-later : goal.invariant-loop-later
invariant-loop-later l = record {
  all : l.requests ++ requests_in (shapes_of l.later) l.left ≡ requests_in (shapes_of l.runs) l.values;
  room : width_of (shapes_of l.later) ≤ length l.left;
}

abbrev pub decreases-loop-later : goal.decreases-loop-later
decreases-loop-later l = length l.later
