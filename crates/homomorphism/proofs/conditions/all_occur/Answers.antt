use Rattle.homomorphism.proofs.Covering.{told, all_more}
use Rattle.homomorphism.proofs.conditions.all_occur.Goals as goal

pub loop-variable-preserved : goal.loop-variable-preserved
loop-variable-preserved c = all_more _ _ _ c.loop-variable.invariant (told _ c.occurs.ensures c.if-not-occurs.false)
