use Rattle.meaning.specs.Conjunctive.{ConditionIsSorted}
use Rattle.access_schema.specs.Meaning.{meaning_of}
use Rattle.sql_select.proofs.Sorted.{AreBefore}
use Rattle.sql_select.proofs.sorts.unsorted_place.Given as goal

-- the conditions that were passed are sorted
abbrev pub invariant-loop-place : goal.invariant-loop-place
invariant-loop-place l = AreBefore (ConditionIsSorted (meaning_of l.schema) l.select) l.select.conditions l.place
