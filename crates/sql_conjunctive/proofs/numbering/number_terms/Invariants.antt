use Rattle.std.proofs.Common.{◌≡◌, take}
use Rattle.std.specs.Prelude.{map}
use Rattle.sql_conjunctive.specs.Numbering.{number_in}
use Rattle.sql_conjunctive.proofs.numbering.number_terms.Given as goal

abbrev pub invariant-loop-term : goal.invariant-loop-term
invariant-loop-term l = l.new.items ≡ map (number_in l.order) (take l.term-index l.terms)
