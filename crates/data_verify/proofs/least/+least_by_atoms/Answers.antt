use Rattle.std.proofs.lemmas.Result.{IfOk-weaker}
use Rattle.data_verify.specs.Settling.{IsSettled}
use Rattle.data_verify.proofs.Stepping.{least_in_if}
use Rattle.data_verify.proofs.least.+least_by_atoms.Goals as goal

pub returns-in_default-clause-some : goal.returns-in_default-clause-some
returns-in_default-clause-some t c = IfOk-weaker c.least_among.result _ _
    (λ found. least_in_if c.args.store.now c.args.rule.now found) c.least_among.ensures.some

pub returns-in_ok-led_by-in-Some-2-clause-some : goal.returns-in_ok-led_by-in-Some-2-clause-some
returns-in_ok-led_by-in-Some-2-clause-some t c =
    let settled : IsSettled c.args.store.now c.args.rule.now c.in-Some.settled =
    rw c.in-Some.is at c.in_ok-settled.ensures in
    rw c.in_ok-led_by-in-Some-2.ensures (settled.least c.in-Some-2.later
    (rw c.in-Some-2.is at c.in_ok-least_by_atoms.ensures.some))
