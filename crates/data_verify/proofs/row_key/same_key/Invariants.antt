use Rattle.std.proofs.Common.{◌≡◌, take}
use Rattle.data_verify.specs.Keys.{key_of}
use Rattle.data_verify.proofs.row_key.same_key.Given as goal

abbrev pub invariant-loop-variable : goal.invariant-loop-variable
invariant-loop-variable l = key_of l.terms (take l.variable-index l.variables) l.row ≡ key_of l.other_terms (take l.variable-index l.variables) l.other
