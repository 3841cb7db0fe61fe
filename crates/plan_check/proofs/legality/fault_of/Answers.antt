use Rattle.std.proofs.Common.{◌≡◌, true, false}
use Rattle.plan_check.specs.Verdicts.IsIllegalOver.{unlawful}
use Rattle.plan_check.proofs.legality.fault_of.Goals as goal

pub returns-in-Err-clause-some : goal.returns-in-Err-clause-some
returns-in-Err-clause-some c = unlawful
    (λ lawful. let never : false ≡ true = (rw c.as_slice.ensures at c.in-Err.ensures.exact).1 lawful in cc)
    (rw c.as_slice.ensures at c.in-Err.ensures.first)
