use Rattle.std.proofs.Common.{◌↔◌, List, take}
use Rattle.meaning.specs.declared.types.Ground.{Ground}
use Rattle.accessible_copy.specs.Known.{known_values}
use Rattle.accessible_copy.specs.Listing.{AreInputs}
use Rattle.exposure_search.specs.Candidates.{AreHeld}
use Rattle.exposure_search.proofs.candidates.asked_values.Given as goal

-- what the first inputs ask for
abbrev pub invariant-loop-place : goal.invariant-loop-place
invariant-loop-place l = (exposed : List Ground) → AreHeld exposed l.asks.items ↔ AreInputs (known_values l.proof.constants exposed) (take l.place-index l.inputs) l.vals
