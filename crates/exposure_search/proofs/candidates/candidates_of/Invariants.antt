use Rattle.exposure_search.proofs.MovesFrom.{AreCandidatesTo}
use Rattle.exposure_search.proofs.candidates.candidates_of.Given as goal

-- those of the first facts were added
abbrev pub invariant-loop-place : goal.invariant-loop-place
invariant-loop-place l = AreCandidatesTo l.schema.methods l.proof.constants l.facts l.marks l.candidates.items l.place
