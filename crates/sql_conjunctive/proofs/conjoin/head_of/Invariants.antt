use Rattle.std.proofs.Common.{◌≡◌, take}
use Rattle.std.specs.Prelude.{map}
use Rattle.meaning.specs.Conjunctive.{term_of}
use Rattle.sql_conjunctive.proofs.conjoin.head_of.Given as goal

abbrev pub invariant-loop-item : goal.invariant-loop-item
invariant-loop-item l = l.head.items ≡ map (term_of l.atoms) (take l.item-index l.items)
