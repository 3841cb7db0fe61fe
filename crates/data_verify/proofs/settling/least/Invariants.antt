use Rattle.std.proofs.Common.{◌∷◌, [], take}
use Rattle.meaning.specs.Triggers.{bound}
use Rattle.data_verify.specs.Settling.{AreMet, IsLeast}
use Rattle.data_verify.proofs.settling.least.Given as goal

abbrev pub invariant-loop-one : goal.invariant-loop-one
invariant-loop-one l = record {
  least : IsLeast l.store l.rule l.first (take l.one-index l.found) l.least;
  met : AreMet l.store l.rule (bound (l.first ∷ [])) l.met;
}
