use Rattle.sql_select.proofs.Resolved.{means, naming_fault}
use Rattle.sql_select.proofs.resolve.resolve_select.Goals as goal

pub returns-clause-means : goal.returns-clause-means
returns-clause-means c = means c.args.relations.now c.args.parts.now c.resolve.result c.resolve.ensures

pub returns-clause-fault : goal.returns-clause-fault
returns-clause-fault c = naming_fault c.args.relations.now c.args.parts.now c.resolve.result c.resolve.ensures
