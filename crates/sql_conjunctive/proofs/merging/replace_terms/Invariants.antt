use Rattle.std.proofs.Common.{◌≡◌, take}
use Rattle.std.specs.Prelude.{map}
use Rattle.sql_conjunctive.specs.Merging.{replaced}
use Rattle.sql_conjunctive.proofs.merging.replace_terms.Given as goal

abbrev pub invariant-loop-term : goal.invariant-loop-term
invariant-loop-term l = l.new.items ≡ map (replaced l.variable l.to) (take l.term-index l.terms)
