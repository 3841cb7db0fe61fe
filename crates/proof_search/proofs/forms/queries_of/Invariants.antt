use Rattle.std.proofs.Common.{◌≡◌, ◌++◌, length}
use Rattle.proof_search.specs.Forms.{queries_in}
use Rattle.proof_search.proofs.forms.queries_of.Given as goal

-- the queries so far, and those that are left
abbrev pub invariant-loop-left : goal.invariant-loop-left
invariant-loop-left l = l.queries ++ queries_in l.left ≡ queries_in l.forms

abbrev pub decreases-loop-left : goal.decreases-loop-left
decreases-loop-left l = length l.left
