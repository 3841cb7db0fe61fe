use Rattle.access_schema.specs.Meaning.{meaning_of}
use Rattle.exposure_search.proofs.Offering.{AreServed}
use Rattle.exposure_search.proofs.listing.active_moves.Given as goal

abbrev pub invariant-loop-place : goal.invariant-loop-place
invariant-loop-place l = AreServed (meaning_of l.schema) l.proof l.marks l.below l.moves.items l.place
