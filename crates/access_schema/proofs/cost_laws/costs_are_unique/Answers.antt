use Rattle.meaning.proofs.Steps.{cost_once}
use Rattle.access_schema.specs.Meaning.{meaning_of}
use Rattle.access_schema.proofs.Keeping.{well_formed}
use Rattle.access_schema.proofs.cost_laws.costs_are_unique.Goals as goal

pub returns : goal.returns
returns c schema branch cost other here there = cost_once (meaning_of schema) (well_formed schema) branch.steps cost other here there
