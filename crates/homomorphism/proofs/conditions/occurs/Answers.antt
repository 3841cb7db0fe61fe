use Rattle.homomorphism.proofs.Covering.{denied, occurs_rest}
use Rattle.homomorphism.proofs.conditions.occurs.Goals as goal

pub loop-left-preserved : goal.loop-left-preserved
loop-left-preserved c = occurs_rest _ _ c.atom-item.result _ c.in-len1-up.len_at_least c.atom-item.is (λ h. denied _ c.has_variable.ensures c.if-has_variable.false (rw c.as_slice.ensures h)) c.loop-left.invariant
