use Rattle.std.proofs.Common.{◌≡◌, ◌-◌, map, take, length}
use Rattle.small_base.specs.Closed.{atom_of}
use Rattle.small_base.proofs.closed.atoms_over.Given as goal

-- the first facts
abbrev pub invariant-loop-fact : goal.invariant-loop-fact
invariant-loop-fact l = l.atoms.items ≡ map atom_of (take (length l.atoms.items) l.facts)

-- the facts that are left
abbrev pub decreases-loop-fact : goal.decreases-loop-fact
decreases-loop-fact l = length l.facts - length l.atoms.items
