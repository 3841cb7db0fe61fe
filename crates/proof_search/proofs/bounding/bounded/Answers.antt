use Rattle.access_schema.specs.Meaning.{meaning_of}
use Rattle.meaning.proofs.Steps.{lawful_named}
use Rattle.proof_search.proofs.bounding.bounded.Goals as goal

pub cost-bound-requires-clause-named : goal.cost-bound-requires-clause-named
cost-bound-requires-clause-named c =
    let question = c.args.question.now in lawful_named (meaning_of question.schema.now) question.known.now 0 c.args.first.steps c.args.first.output c.requires.first.rival.lawful

pub cost-requires-clause-named : goal.cost-requires-clause-named
cost-requires-clause-named c =
    let question = c.args.question.now in let branch = c.in_ok-choice.choice.branch in
    lawful_named (meaning_of question.schema.now) question.known.now 0 branch.steps branch.output c.in_ok-choice.ensures.branch.rival.lawful
