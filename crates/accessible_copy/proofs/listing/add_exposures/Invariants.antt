use Rattle.std.proofs.Common.{take}
use Rattle.access_schema.specs.Meaning.{meaning_of}
use Rattle.accessible_copy.specs.Listing.{AddsExposures}
use Rattle.accessible_copy.proofs.listing.add_exposures.Given as goal

abbrev pub invariant-loop-number : goal.invariant-loop-number
invariant-loop-number l = AddsExposures (meaning_of l.schema) l.proof l.fact (take l.number-index l.numbers) l.initial.found.items l.found.items
