use Rattle.middleware.proofs.Accessing.{step_found, step_absent}
use Rattle.middleware.proofs.accesses.add_relation.Goals as goal

pub returns-in_ok-push-in-Some : goal.returns-in_ok-push-in-Some
returns-in_ok-push-in-Some c = λ rel. step_found c.args.schema.now c.args.step.now c.in-Some.method.now c.in-Some.ensures.there c.args.into.now.items c.push.new.self.items c.in_ok-push-in-Some.ensures.items rel

pub returns-in-None : goal.returns-in-None
returns-in-None c = λ rel. step_absent c.args.schema.now c.args.step.now c.in-None.ensures.absent c.args.into.now.items rel
