use Rattle.std.proofs.Common.{◌≡◌, map, take}
use Rattle.middleware.specs.Parts.{key_of}
use Rattle.middleware.proofs.parts.key_texts.Given as goal

abbrev pub invariant-loop-position : goal.invariant-loop-position
invariant-loop-position l = map (λ s. s.now) l.texts.items ≡ key_of (take l.position-index l.positions) l.row
