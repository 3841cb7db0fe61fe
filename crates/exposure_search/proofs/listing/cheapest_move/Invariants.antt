use Rattle.std.proofs.Common.{take}
use Rattle.accessible_copy.specs.Known.{known_values}
use Rattle.exposure_search.proofs.Offering.{AreOffered}
use Rattle.exposure_search.proofs.listing.cheapest_move.Given as goal

-- the best of the methods so far
abbrev pub invariant-loop-number : goal.invariant-loop-number
invariant-loop-number l = AreOffered l.schema.methods (known_values l.proof.constants l.proof.end.exposed) l.fact l.place l.below (take l.number-index l.numbers) l.best l.limit
