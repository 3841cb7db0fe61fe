use Rattle.std.proofs.Common.{◌≡◌, map, take}
use Rattle.access_schema.specs.Content.{atom_of}
use Rattle.access_schema.proofs.content.atoms_of.Given as goal

-- the atoms so far
abbrev pub invariant-loop-atom : goal.invariant-loop-atom
invariant-loop-atom l = l.made.items ≡ map (atom_of l.relations l.variables) (take l.atom-index l.atoms)
