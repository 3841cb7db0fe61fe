use Rattle.std.proofs.Common.{◌≡◌, take}
use Rattle.lists.specs.Hash.{mix}
use Rattle.lists.proofs.hash.mix.Given as goal

abbrev pub invariant-loop-byte : goal.invariant-loop-byte
invariant-loop-byte l = l.mixed ≡ mix l.hash (take l.byte-index l.bytes)
