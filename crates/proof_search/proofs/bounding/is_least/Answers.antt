use Rattle.proof_search.proofs.bounding.is_least.Goals as goal

pub closed_query-requires : goal.closed_query-requires
closed_query-requires c = (c.requires.question.queries c.args.question.now.query.now c.requires.question.among).fits.variables
