use Rattle.proof_search.proofs.refuting.refuted.Goals as goal

pub closed_query-requires : goal.closed_query-requires
closed_query-requires c = (c.requires.queries c.args.question.now.query.now c.requires.among).fits.variables
