-- The relations of rules as lists.
use Rattle.std.specs.Prelude.{◌++◌, ℕ, List, map, flat_map}
use Rattle.meaning.specs.declared.types.Atom.{Atom}
use Rattle.meaning.specs.declared.types.Rule.{Rule}

-- The relation of each atom.
abbrev pub relations_of : List Atom → List ℕ
relations_of atoms = map (λ atom. atom.rel) atoms

-- The relation of each atom of each rule.
abbrev pub relations_in : List Rule → List ℕ
relations_in rules = flat_map (λ rule. relations_of rule.body ++ relations_of rule.head) rules
