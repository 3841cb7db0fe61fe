use Rattle.std.proofs.Common.{length}
use Rattle.access_schema.specs.Meaning.{meaning_of}
use Rattle.proof_search.proofs.Planned.{Leads}
use Rattle.proof_search.proofs.planning.entries_of.Given as goal

-- entries of the selects that are left, behind those so far, are entries of all
abbrev pub invariant-loop-left : goal.invariant-loop-left
invariant-loop-left l = Leads (meaning_of l.schema) l.forms l.choices l.left l.waiting l.entries

abbrev pub decreases-loop-left : goal.decreases-loop-left
decreases-loop-left l = length l.left
