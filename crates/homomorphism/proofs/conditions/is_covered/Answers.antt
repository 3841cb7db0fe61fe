use Rattle.std.proofs.Common.{◌⊎◌}
use Rattle.lists.proofs.Booleans.{test_holds, test_fails}
use Rattle.meaning.specs.Matching.{OccursIn}
use Rattle.homomorphism.specs.Bindings.{IsBound}
use Rattle.homomorphism.proofs.Covering.{told, denied, covered_more, not_covered, all_covered}
use Rattle.homomorphism.proofs.conditions.is_covered.Goals as goal

pub returns-then-not-is_given_or_occurs : goal.returns-then-not-is_given_or_occurs
returns-then-not-is_given_or_occurs c = test_fails (not_covered _ _ _ _ c.as_slice-given.ensures c.as_slice-atoms.ensures _ c.loop-variable-test.true (denied _ c.is_given_or_occurs.ensures c.if-not-is_given_or_occurs.true))

pub loop-variable-preserved : goal.loop-variable-preserved
loop-variable-preserved c = covered_more (λ x. IsBound _ x ⊎ OccursIn _ x) _ c.loop-variable.invariant (told _ c.is_given_or_occurs.ensures c.if-not-is_given_or_occurs.false)

pub returns : goal.returns
returns c = test_holds (rw c.as_slice-atoms.ensures at (all_covered _ _ _ _ c.as_slice-given.ensures c.loop-variable-test.false c.loop-variable.invariant))
