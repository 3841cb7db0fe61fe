use Rattle.std.proofs.Common.{take}
use Rattle.std.specs.Prelude.{Contains}
use Rattle.meaning.specs.declared.types.Atom.{Atom}
use Rattle.exposure_search.specs.Tries.{IsMarked}
use Rattle.exposure_search.proofs.wanted.has_marked.Given as goal

-- none of the first atoms has a marked relation
abbrev pub invariant-loop-atom : goal.invariant-loop-atom
invariant-loop-atom l = (atom : Atom) → Contains (take l.atom-index l.atoms) atom → IsMarked l.marks atom.rel → ⊥
