use Rattle.std.proofs.Common.{take}
use Rattle.access_schema.specs.Meaning.{meaning_of}
use Rattle.accessible_copy.specs.Listing.{AreExposures}
use Rattle.accessible_copy.proofs.listing.indexed_exposures.Given as goal

abbrev pub invariant-loop-number : goal.invariant-loop-number
invariant-loop-number l = AreExposures (meaning_of l.schema) l.proof (take l.number l.proof.end.base) l.found.items
