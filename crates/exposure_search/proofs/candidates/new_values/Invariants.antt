use Rattle.std.proofs.Common.{◌↔◌, List, take}
use Rattle.meaning.specs.declared.types.Ground.{Ground}
use Rattle.accessible_copy.specs.Known.{known_values}
use Rattle.exposure_search.specs.Candidates.{AreHeld, AreKnown}
use Rattle.exposure_search.proofs.candidates.new_values.Given as goal

-- what the first values bring
abbrev pub invariant-loop-val : goal.invariant-loop-val
invariant-loop-val l = (exposed : List Ground) → AreHeld exposed l.brings.items ↔ AreKnown (known_values l.proof.constants exposed) (take l.val-index l.vals)
