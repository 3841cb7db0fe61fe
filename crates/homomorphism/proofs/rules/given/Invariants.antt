use Rattle.std.proofs.Common.{◌≡◌, ◌-◌, length, map, take, Some}
use Rattle.homomorphism.proofs.Giving.{Fills}
use Rattle.homomorphism.proofs.rules.given.Given as goal

abbrev pub invariant-loop-value : goal.invariant-loop-value
invariant-loop-value l = l.fixed.items ≡ map Some (take l.value-index l.values)

abbrev pub invariant-loop-fixed : goal.invariant-loop-fixed
invariant-loop-fixed l = Fills l.values l.width l.fixed.items

abbrev pub decreases-loop-fixed : goal.decreases-loop-fixed
decreases-loop-fixed l = l.width - length l.fixed.items
