use Rattle.std.proofs.Common.{◌≡◌, length}
use Rattle.std.specs.Prelude.{filter_map}
use Rattle.access_schema.specs.Lists.{once_after}
use Rattle.access_schema.specs.SortFaults.{text_at, sorted_terms}
use Rattle.access_schema.proofs.wrong_sort.add_atoms.Given as goal

-- what is known goes on to the same texts
abbrev pub invariant-loop-left : goal.invariant-loop-left
invariant-loop-left l = once_after l.fn.known.items (filter_map (text_at l.wanted l.sort) (sorted_terms l.relations l.atoms)) ≡ once_after l.known.items (filter_map (text_at l.wanted l.sort) (sorted_terms l.relations l.left))

abbrev pub decreases-loop-left : goal.decreases-loop-left
decreases-loop-left l = length l.left
