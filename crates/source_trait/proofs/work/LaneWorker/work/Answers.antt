use Rattle.std.proofs.Common.{refl, Err, Ok}
use Rattle.source_trait.specs.declared.source.CallFault.TheVariants as fault
use Rattle.source_trait.proofs.Works.{may_ask_after, refused_call}
use Rattle.source_trait.proofs.work.LaneWorker.work.Goals as goal

pub returns-in-Ok-clause-ready : goal.returns-in-Ok-clause-ready
returns-in-Ok-clause-ready g c = λ x may. may_ask_after g.S.Source.seen c.args.ask.now c.args.self.now.kinds.items c.call_on.new.lane.kinds.items x (Ok c.in-Ok.rows) c.in-Ok.ensures.steps may

pub returns-in-Err-Failed-clause-did : goal.returns-in-Err-Failed-clause-did
returns-in-Err-Failed-clause-did g c =
    (refused_call g.S.Source.seen c.args.ask.now c.args.self.now _ c.in-Err-Failed.field-0 fault.Failed c.in-Err-Failed.field-0-is c.if-self.false c.in-Err-Failed.ensures.steps c.in-Err-Failed.ensures.stays, refl)

pub returns-in-Err-Failed-clause-ready : goal.returns-in-Err-Failed-clause-ready
returns-in-Err-Failed-clause-ready g c = λ x may. may_ask_after g.S.Source.seen c.args.ask.now c.args.self.now.kinds.items c.call_on.new.lane.kinds.items x (Err c.in-Err-Failed.field-0) c.in-Err-Failed.ensures.steps may

pub returns-in-Err-NoMemory-clause-did : goal.returns-in-Err-NoMemory-clause-did
returns-in-Err-NoMemory-clause-did g c =
    (refused_call g.S.Source.seen c.args.ask.now c.args.self.now _ c.in-Err-NoMemory.field-0 fault.NoMemory c.in-Err-NoMemory.field-0-is c.if-self.false c.in-Err-NoMemory.ensures.steps c.in-Err-NoMemory.ensures.stays, refl)

pub returns-in-Err-NoMemory-clause-ready : goal.returns-in-Err-NoMemory-clause-ready
returns-in-Err-NoMemory-clause-ready g c = λ x may. may_ask_after g.S.Source.seen c.args.ask.now c.args.self.now.kinds.items c.call_on.new.lane.kinds.items x (Err c.in-Err-NoMemory.field-0) c.in-Err-NoMemory.ensures.steps may
