use Rattle.std.proofs.Common.{take}
use Rattle.std.specs.Prelude.{option_copied}
use Rattle.data_verify.specs.Inclusion.{IsWithout, IsLeastIf}
use Rattle.data_verify.proofs.inclusion.least.Given as goal

abbrev pub invariant-loop-fact : goal.invariant-loop-fact
invariant-loop-fact l = IsLeastIf (IsWithout l.body l.head l.variables l.keys) (take l.fact-index l.instance) (option_copied l.least)
