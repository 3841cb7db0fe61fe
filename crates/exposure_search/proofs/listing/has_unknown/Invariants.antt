use Rattle.std.proofs.Common.{take}
use Rattle.std.specs.Prelude.{Contains}
use Rattle.meaning.specs.declared.types.Val.{Val}
use Rattle.accessible_copy.specs.Known.{known_values}
use Rattle.exposure_search.proofs.listing.has_unknown.Given as goal

-- the first values are known
abbrev pub invariant-loop-val : goal.invariant-loop-val
invariant-loop-val l = (v : Val) → Contains (take l.val-index l.vals) v → Contains (known_values l.proof.constants l.proof.end.exposed) v
