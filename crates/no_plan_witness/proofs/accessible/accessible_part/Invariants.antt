use Rattle.std.proofs.Common.{length}
use Rattle.access_schema.specs.Meaning.{meaning_of}
use Rattle.no_plan_witness.specs.Gathering.{Gathered}
use Rattle.no_plan_witness.proofs.accessible.accessible_part.Given as goal

abbrev pub invariant-loop-place : goal.invariant-loop-place
invariant-loop-place l = Gathered (meaning_of l.schema) l.constants l.facts l.waiting.items l.part.items

abbrev pub decreases-loop-place : goal.decreases-loop-place
decreases-loop-place l = length l.waiting.items
