use Rattle.proof_search.proofs.choosing.choose.Goals as goal

pub base_proof-requires-clause-counted : goal.base_proof-requires-clause-counted
base_proof-requires-clause-counted c = (c.requires.question.queries c.args.question.now.query.now c.requires.question.among).counted.atoms

pub base_proof-requires-clause-few : goal.base_proof-requires-clause-few
base_proof-requires-clause-few c = (c.requires.question.queries c.args.question.now.query.now c.requires.question.among).few
