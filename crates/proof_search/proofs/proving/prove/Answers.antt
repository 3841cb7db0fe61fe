use Rattle.proof_search.proofs.proving.prove.Goals as goal

pub start-requires-clause-counted : goal.start-requires-clause-counted
start-requires-clause-counted c = (c.requires.queries c.args.question.now.query.now c.requires.among).counted.atoms

pub start-requires-clause-few : goal.start-requires-clause-few
start-requires-clause-few c = (c.requires.queries c.args.question.now.query.now c.requires.among).few
