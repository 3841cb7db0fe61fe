use Rattle.std.proofs.Common.{◌≡◌, map, take}
use Rattle.connected_match.specs.Chains.{given_at}
use Rattle.connected_match.proofs.chain.values_of.Given as goal

abbrev pub invariant-loop-variable : goal.invariant-loop-variable
invariant-loop-variable l = l.values.items ≡ map (given_at l.given) (take l.variable-index l.variables)
