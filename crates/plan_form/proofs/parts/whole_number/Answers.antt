use Rattle.std.proofs.Common.{arith}
use Rattle.plan_form.proofs.Numbers.{plain_some}
use Rattle.plan_form.proofs.parts.whole_number.Goals as goal

pub returns-in-Some : goal.returns-in-Some
returns-in-Some c = plain_some c.args.digits.now c.in-Some.number c.in-Some.ensures (omega arith)
