use Rattle.std.proofs.Common.{◌≡◌, map, take}
use Rattle.meaning.specs.Judge.{out_term}
use Rattle.plan_check.proofs.branch_query.head.Given as goal

-- the terms of the places so far
abbrev pub invariant-loop-place : goal.invariant-loop-place
invariant-loop-place l = l.head.items ≡ map out_term (take l.place-index l.output)
