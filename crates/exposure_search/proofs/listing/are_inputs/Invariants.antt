use Rattle.std.proofs.Common.{take}
use Rattle.accessible_copy.specs.Known.{known_values}
use Rattle.accessible_copy.specs.Listing.{AreInputs}
use Rattle.exposure_search.proofs.listing.are_inputs.Given as goal

abbrev pub invariant-loop-number : goal.invariant-loop-number
invariant-loop-number l = AreInputs (known_values l.proof.constants l.proof.end.exposed) (take l.number l.inputs) l.vals
