use Rattle.std.proofs.Common.{◌≡◌, fold, take}
use Rattle.data_verify.specs.Keys.{reading, mixed}
use Rattle.data_verify.proofs.row_key.key_code.Given as goal

abbrev pub invariant-loop-variable : goal.invariant-loop-variable
invariant-loop-variable l = l.code ≡ fold (λ h x. mixed h (reading l.terms l.row x)) 14695981039346656037 (take l.variable-index l.variables)
