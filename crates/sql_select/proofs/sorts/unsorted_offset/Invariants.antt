use Rattle.meaning.specs.Conjunctive.{SelectIsSorted}
use Rattle.access_schema.specs.Meaning.{meaning_of}
use Rattle.sql_select.proofs.Sorted.{AreBefore}
use Rattle.sql_select.proofs.sorts.unsorted_offset.Given as goal

-- the selects that were passed are sorted
abbrev pub invariant-loop-number : goal.invariant-loop-number
invariant-loop-number l = AreBefore (SelectIsSorted (meaning_of l.schema)) l.selects l.number
