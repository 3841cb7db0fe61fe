use Rattle.std.proofs.Common.{◌≡◌, take}
use Rattle.std.specs.Prelude.{filter, nat_lt}
use Rattle.connected_match.specs.Chains.{first_of}
use Rattle.connected_match.proofs.chain.carried.Given as goal

abbrev pub invariant-loop-variable : goal.invariant-loop-variable
invariant-loop-variable l = l.row.items ≡ filter (λ x. nat_lt (first_of l.firsts x) l.place) (take l.variable-index l.variables)
