use Rattle.std.proofs.Common.{take}
use Rattle.accessible_copy.specs.Known.{known_values, facts_of}
use Rattle.accessible_copy.specs.Listing.{AreInputs}
use Rattle.accessible_copy.proofs.listing.are_inputs.Given as goal

abbrev pub invariant-loop-number : goal.invariant-loop-number
invariant-loop-number l = AreInputs (known_values l.known.constants (facts_of l.known.exposed)) (take l.number l.inputs) l.vals
