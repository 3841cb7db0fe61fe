use Rattle.std.proofs.Common.{◌≡◌, map, take}
use Rattle.least_search.specs.Sides.{whole}
use Rattle.least_search.proofs.residues.whole_costs.Given as goal

abbrev pub invariant-loop-step : goal.invariant-loop-step
invariant-loop-step g l = l.residues.items ≡ map whole (take l.step-index l.step-items)
