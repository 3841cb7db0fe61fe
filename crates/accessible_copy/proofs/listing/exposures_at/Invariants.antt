use Rattle.std.proofs.Common.{take}
use Rattle.access_schema.specs.Meaning.{meaning_of}
use Rattle.accessible_copy.proofs.OpenListed.{AreFound}
use Rattle.accessible_copy.proofs.listing.exposures_at.Given as goal

abbrev pub invariant-loop-number : goal.invariant-loop-number
invariant-loop-number l = AreFound (meaning_of l.schema) l.proof (take l.number-index l.numbers) l.found.items
