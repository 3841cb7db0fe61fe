use Rattle.access_schema.specs.Meaning.{meaning_of}
use Rattle.plan_check.proofs.Sorting.{SortedBefore}
use Rattle.plan_check.proofs.sorts.is_sorted.Given as goal

-- the terms so far may stand where they do
abbrev pub invariant-loop-place : goal.invariant-loop-place
invariant-loop-place l = SortedBefore (meaning_of l.schema) l.atom.rel l.terms l.place
