use Rattle.std.proofs.Common.{◌≡◌, length}
use Rattle.homomorphism.specs.Walks.{AreListed}
use Rattle.homomorphism.proofs.walk.listed.Given as goal

abbrev pub invariant-loop-part : goal.invariant-loop-part
invariant-loop-part l = record {
  count : length l.lists.items ≡ l.part;
  listed : AreListed l.store l.atoms l.head l.runs l.givens l.lists.items;
}
