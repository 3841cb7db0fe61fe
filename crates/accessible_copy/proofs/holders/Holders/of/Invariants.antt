use Rattle.std.proofs.Common.{take}
use Rattle.accessible_copy.specs.OpenFacts.{AreHolders}
use Rattle.accessible_copy.proofs.holders.Holders.of.Given as goal

abbrev pub invariant-loop-number : goal.invariant-loop-number
invariant-loop-number l = AreHolders (take l.number l.facts) l.holders
