use Rattle.std.proofs.Common.{take}
use Rattle.data_verify.specs.Unmet.{AreLeastRowsIf}
use Rattle.data_verify.proofs.least.least_among.Given as goal

abbrev pub invariant-loop-one : goal.invariant-loop-one
invariant-loop-one l = AreLeastRowsIf l.store l.rule (take l.one-index l.one-items) l.least
