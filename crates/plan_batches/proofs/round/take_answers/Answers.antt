use Rattle.std.proofs.Common.{◌∙◌, ap, length, length-append, arith}
use Rattle.plan_batches.proofs.round.take_answers.Goals as goal

pub take_all-requires-clause-numbers : goal.take_all-requires-clause-numbers
take_all-requires-clause-numbers c = λ going number among h.
    let less = c.requires.numbers going number among h in
    let long = ap length c.in_ok-all.ensures ∙ length-append c.args.noted.kept c.args.answers.now in
    omega (arith, less, long)
