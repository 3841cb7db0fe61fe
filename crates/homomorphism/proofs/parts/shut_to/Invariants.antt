use Rattle.std.proofs.Common.{◌≡◌, length}
use Rattle.homomorphism.specs.Walks.{AreShut}
use Rattle.homomorphism.proofs.parts.shut_to.Given as goal

abbrev pub invariant-loop-variable : goal.invariant-loop-variable
invariant-loop-variable l = record {
  count : length l.given ≡ l.variable;
  shut : AreShut l.start l.owners l.part l.given;
}
