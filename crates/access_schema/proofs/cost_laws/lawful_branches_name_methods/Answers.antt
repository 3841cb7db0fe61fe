use Rattle.access_schema.specs.Meaning.{meaning_of}
use Rattle.meaning.proofs.Steps.{lawful_named}
use Rattle.access_schema.proofs.cost_laws.lawful_branches_name_methods.Goals as goal

pub returns : goal.returns
returns c schema constants branch lawful = lawful_named (meaning_of schema) constants 0 branch.steps branch.output lawful
