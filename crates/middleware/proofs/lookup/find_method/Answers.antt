use Rattle.middleware.proofs.Finding.{no_method}
use Rattle.middleware.proofs.lookup.find_method.Goals as goal

pub returns-in-None-clause-absent : goal.returns-in-None-clause-absent
returns-in-None-clause-absent c = λ method named. no_method c.args.schema.now.methods c.args.name.now c.in-None.ensures method named
