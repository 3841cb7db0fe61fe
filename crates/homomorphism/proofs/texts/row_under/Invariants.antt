use Rattle.std.proofs.Common.{◌≡◌, take}
use Rattle.homomorphism.specs.Texts.{row_of}
use Rattle.homomorphism.proofs.texts.row_under.Given as goal

abbrev pub invariant-loop-term : goal.invariant-loop-term
invariant-loop-term l = l.row.items ≡ row_of (take l.term-index l.terms) l.values
