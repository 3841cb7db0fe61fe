use Rattle.access_schema.specs.Meaning.{meaning_of}
use Rattle.meaning.proofs.Steps.{lawful_named}
use Rattle.proof_search.proofs.sparing.cheaper_of.Goals as goal

pub cost-requires-clause-named : goal.cost-requires-clause-named
cost-requires-clause-named c =
    let question = c.args.question.now in lawful_named (meaning_of question.schema.now) question.known.now 0 c.args.other.steps c.args.other.output c.requires.other.rival.lawful

pub cost-requires-2-clause-named : goal.cost-requires-2-clause-named
cost-requires-2-clause-named c =
    let question = c.args.question.now in lawful_named (meaning_of question.schema.now) question.known.now 0 c.args.first.steps c.args.first.output c.requires.first.rival.lawful
