use Rattle.std.proofs.Common.{length, Contains}
use Rattle.meaning.specs.declared.types.Term.{Term}
use Rattle.homomorphism.specs.Widening.{Touches}
use Rattle.homomorphism.proofs.Binding.{Reached}
use Rattle.homomorphism.proofs.bind.bind_all.Given as goal

abbrev pub invariant-loop-left : goal.invariant-loop-left
invariant-loop-left l = record {
  reached : Reached l.terms l.vals l.fn.given.items l.left l.other l.given.items;
  inside : (t : Term) → Contains l.left t → Contains l.terms t;
  touched : Touches l.terms l.fn.given.items l.given.items;
}

abbrev pub decreases-loop-left : goal.decreases-loop-left
decreases-loop-left l = length l.left
