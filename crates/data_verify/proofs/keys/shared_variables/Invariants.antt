use Rattle.std.proofs.Common.{take}
use Rattle.data_verify.specs.Inclusion.{AreShared}
use Rattle.data_verify.proofs.keys.shared_variables.Given as goal

abbrev pub invariant-loop-term : goal.invariant-loop-term
invariant-loop-term l = AreShared l.body (take l.term-index l.head) l.shared.items
