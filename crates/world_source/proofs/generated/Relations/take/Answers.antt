-- One more relation, with the rows of its formula.
use Rattle.world_source.proofs.Attached.{grown, grown_store}
use Rattle.world_source.proofs.generated.Relations.take.Goals as goal

pub invariant_of-self-2 : goal.invariant_of-self-2
invariant_of-self-2 c =
    grown_store c.self.inside.list.items c.push.new.self.items c.in_ok-generated.generated c.args.rel c.args.columns.now c.args.locator.now c.args.formula.step c.args.formula.count
    c.in_ok-generated.ensures c.in_ok-push.ensures.items (rw c.self.view_is c.requires.absent) c.requires.two c.self.invariant

pub returns-clause-attached : goal.returns-clause-attached
returns-clause-attached c =
    (grown c.self.inside.list.items c.push.new.self.items c.in_ok-generated.generated c.args.rel c.args.columns.now c.args.locator.now c.args.formula.step c.args.formula.count
    c.in_ok-generated.ensures c.in_ok-push.ensures.items (rw c.self.view_is c.requires.absent)).attached

pub returns-clause-others : goal.returns-clause-others
returns-clause-others c = λ r apart.
    rw (← c.self.view_is) ((grown c.self.inside.list.items c.push.new.self.items c.in_ok-generated.generated c.args.rel c.args.columns.now c.args.locator.now c.args.formula.step c.args.formula.count
    c.in_ok-generated.ensures c.in_ok-push.ensures.items (rw c.self.view_is c.requires.absent)).others r apart)

pub returns-clause-facts : goal.returns-clause-facts
returns-clause-facts c =
    rw (← c.self.view_is) ((grown c.self.inside.list.items c.push.new.self.items c.in_ok-generated.generated c.args.rel c.args.columns.now c.args.locator.now c.args.formula.step c.args.formula.count
    c.in_ok-generated.ensures c.in_ok-push.ensures.items (rw c.self.view_is c.requires.absent)).facts)
