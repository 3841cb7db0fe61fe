use Rattle.std.proofs.Common.{◌≡◌, map, take}
use Rattle.meaning.specs.Triggers.{ground as ground_of}
use Rattle.homomorphism.proofs.grounding.ground_under.Given as goal

-- the facts of the atoms so far
abbrev pub invariant-loop-atom : goal.invariant-loop-atom
invariant-loop-atom g l = l.facts.items ≡ map (ground_of (g.A.Assigns.value_at l.assignment)) (take l.atom-index l.atoms)
