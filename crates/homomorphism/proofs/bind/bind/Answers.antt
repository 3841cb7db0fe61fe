use Rattle.homomorphism.proofs.Binding.{bind_none}
use Rattle.homomorphism.proofs.Touching.{touched_bind}
use Rattle.homomorphism.proofs.bind.bind.Goals as goal

pub returns-in_ok-copy-in-None-clause-yes : goal.returns-in_ok-copy-in-None-clause-yes
returns-in_ok-copy-in-None-clause-yes c = λ yes. bind_none c.args.given.now.items c.in-Var.variable c.args.val.now c.in_ok-copy-in-None.field-0 c.args.term.now c.index.result.now c.in-Var.is c.requires c.index.ensures c.in-None.is c.in_ok-copy-in-None.ensures

pub returns-in_ok-copy-in-None-clause-touched : goal.returns-in_ok-copy-in-None-clause-touched
returns-in_ok-copy-in-None-clause-touched c = touched_bind c.args.given.now.items c.in-Var.variable c.in_ok-copy-in-None.field-0 c.args.term.now c.index.result.now c.in-Var.is c.requires c.index.ensures c.in-None.is
