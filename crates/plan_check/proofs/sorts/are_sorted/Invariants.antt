use Rattle.meaning.specs.declared.types.Atom.{Atom}
use Rattle.meaning.specs.declared.types.Term.TheVariants.{Const as Said}
use Rattle.meaning.specs.Sorts.{AreSorted}
use Rattle.access_schema.specs.Meaning.{meaning_of}
use Rattle.sql_select.proofs.Sorted.{AreBefore}
use Rattle.plan_check.proofs.sorts.are_sorted.Given as goal

-- the atoms that were passed are sorted
abbrev pub invariant-loop-atom : goal.invariant-loop-atom
invariant-loop-atom l =
    AreBefore (λ (atom : Atom). AreSorted Said (meaning_of l.schema) atom.rel atom.terms) l.atoms l.atom-index
