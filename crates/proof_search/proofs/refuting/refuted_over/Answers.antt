use Rattle.std.proofs.Common.{Ok, ap}
use Rattle.proof_search.proofs.RefutingPairs.{fits_more, met_first, exhausted_of}
use Rattle.proof_search.proofs.refuting.refuted_over.Goals as goal

pub start-requires-clause-counted : goal.start-requires-clause-counted
start-requires-clause-counted c =
    (fits_more c.args.question.now c.requires.question c.args.more.now c.requires.closed).variables

pub expose_all-requires-clause-met : goal.expose_all-requires-clause-met
expose_all-requires-clause-met c =
    met_first c.args.question.now c.requires.question c.args.more.now c.requires.closed c.in_ok-proof.proof c.in_ok-proof.ensures.ordered
    c.in_ok-proof.ensures.start c.in_ok-proof.ensures.empty

pub refuted_in-found-requires-clause-exhausted : goal.refuted_in-found-requires-clause-exhausted
refuted_in-found-requires-clause-exhausted c =
    exhausted_of c.args.question.now c.requires.question c.args.more.now c.requires.closed c.in_ok-proof.proof c.expose_all.new.proof
    c.in_ok-proof.ensures.start c.in_ok-proof.ensures.constants c.in-Ok.ensures.search c.in-Ok.ensures.met
    (c.in-Ok.ensures.quiet (ap Ok c.if-not-quiet.false))
