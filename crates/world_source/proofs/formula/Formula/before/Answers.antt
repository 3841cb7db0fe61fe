use Rattle.world_source.proofs.Rounds.{leads}
use Rattle.world_source.proofs.formula.Formula.before.Goals as goal

pub returns-clause-leads : goal.returns-clause-leads
returns-clause-leads c = leads c.args.self.step c.args.self.count c.args.self.some c.args.number c.requires
