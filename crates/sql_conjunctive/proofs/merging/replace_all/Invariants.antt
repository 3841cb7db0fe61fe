use Rattle.std.proofs.Common.{◌≡◌, take}
use Rattle.std.specs.Prelude.{map}
use Rattle.sql_conjunctive.specs.Merging.{replaced, with_terms}
use Rattle.sql_conjunctive.proofs.merging.replace_all.Given as goal

abbrev pub invariant-loop-atom : goal.invariant-loop-atom
invariant-loop-atom l = l.new.items ≡ map (with_terms (replaced l.variable l.to)) (take l.atom-index l.atoms)
