use Rattle.std.proofs.Common.{◌≡◌, length, take}
use Rattle.homomorphism.specs.Texts.{text_at}
use Rattle.data_verify.specs.Remaining.{remaining_atoms}
use Rattle.data_verify.proofs.remaining.remaining_atoms.Given as goal

abbrev pub invariant-loop-atom : goal.invariant-loop-atom
invariant-loop-atom l = l.rest.items ≡ remaining_atoms (length l.values) (text_at l.values) (take l.atom-index l.atoms)
