use Rattle.std.proofs.Common.{◌≡◌, take}
use Rattle.std.specs.Prelude.{Contains}
use Rattle.meaning.specs.declared.types.Val.{Val}
use Rattle.exposure_search.proofs.candidates.is_among.Given as goal

-- none of the first values is it
abbrev pub invariant-loop-other : goal.invariant-loop-other
invariant-loop-other l = (v : Val) → Contains (take l.other-index l.vals) v → v ≡ l.val → ⊥
