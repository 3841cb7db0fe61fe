use Rattle.std.proofs.Common.{◌≡◌, map, take}
use Rattle.connected_match.specs.Chains.{place_in}
use Rattle.connected_match.proofs.chain.places_of.Given as goal

abbrev pub invariant-loop-variable : goal.invariant-loop-variable
invariant-loop-variable l = l.places.items ≡ map (place_in l.names) (take l.variable-index l.variables)
