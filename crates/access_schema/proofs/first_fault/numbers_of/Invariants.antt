use Rattle.std.proofs.Common.{◌≡◌, map, take}
use Rattle.access_schema.specs.Content.{number_of}
use Rattle.access_schema.proofs.first_fault.numbers_of.Given as goal

-- the numbers are those of the atoms so far
abbrev pub invariant-loop-atom : goal.invariant-loop-atom
invariant-loop-atom l = l.numbers.items ≡ map (λ atom. number_of l.relations atom.relation) (take l.atom-index l.atoms)
