use Rattle.std.proofs.Common.{take}
use Rattle.data_verify.specs.Inclusion.{AreKeys}
use Rattle.data_verify.proofs.keys.keys.Given as goal

abbrev pub invariant-loop-fact : goal.invariant-loop-fact
invariant-loop-fact l = AreKeys (take l.fact-index l.instance) l.atom l.variables l.keys
