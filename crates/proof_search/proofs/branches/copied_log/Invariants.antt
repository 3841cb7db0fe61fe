use Rattle.std.proofs.Common.{◌≡◌, ◌-◌, take, length}
use Rattle.accessible_copy.specs.Proving.{log_of}
use Rattle.proof_search.proofs.branches.copied_log.Given as goal

-- the first firings of the log
abbrev pub invariant-loop-log : goal.invariant-loop-log
invariant-loop-log l = l.log ≡ take (length l.log) (log_of l.proof)

-- the firings that are left
abbrev pub decreases-loop-log : goal.decreases-loop-log
decreases-loop-log l = length (log_of l.proof) - length l.log
