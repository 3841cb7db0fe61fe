use Rattle.access_schema.specs.Meaning.{meaning_of}
use Rattle.accessible_copy.specs.Proving.{IsProofOf, IsOrdered}
use Rattle.planner_cases.proofs.of_proofs.calls.make_all.Given as goal

abbrev pub invariant-loop-call : goal.invariant-loop-call
invariant-loop-call l = IsProofOf (meaning_of l.schema) l.proof × IsOrdered (meaning_of l.schema) l.proof
