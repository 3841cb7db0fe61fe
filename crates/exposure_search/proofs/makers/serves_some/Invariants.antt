use Rattle.std.proofs.Common.{take}
use Rattle.std.specs.Prelude.{Contains}
use Rattle.meaning.specs.declared.types.Atom.{Atom}
use Rattle.exposure_search.proofs.Served.{NoneServes}
use Rattle.exposure_search.proofs.makers.serves_some.Given as goal

-- the rule can make no fact of the first atoms
abbrev pub invariant-loop-atom : goal.invariant-loop-atom
invariant-loop-atom l = (atom : Atom) → Contains (take l.atom-index l.atoms) atom → NoneServes l.given l.next l.width l.rule.head atom
