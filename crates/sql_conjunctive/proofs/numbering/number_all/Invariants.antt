use Rattle.std.proofs.Common.{◌≡◌, take}
use Rattle.std.specs.Prelude.{map}
use Rattle.sql_conjunctive.specs.Merging.{with_terms}
use Rattle.sql_conjunctive.specs.Numbering.{number_in}
use Rattle.sql_conjunctive.proofs.numbering.number_all.Given as goal

abbrev pub invariant-loop-atom : goal.invariant-loop-atom
invariant-loop-atom l = l.new.items ≡ map (with_terms (number_in l.order)) (take l.atom-index l.atoms)
