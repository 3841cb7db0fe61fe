use Rattle.std.proofs.Common.{refl, arith}
use Rattle.std.proofs.lemmas.List.{length-map}
use Rattle.lane_pool.specs.declared.draws.Event.TheVariants.{Draw, Done}
use Rattle.lane_pool.specs.Fields.{lane_of, core_of}
use Rattle.lane_pool.proofs.DrawSteps.{draw_room, draw_core, draw_kept, done_room, done_core, done_kept, may, has_room, same_after}
use Rattle.lane_pool.proofs.draws.Draws.step.Goals as goal

pub push_reserved-requires : goal.push_reserved-requires
push_reserved-requires c =
    let s = c.self.inside in
    let e = Draw c.in-Draw.lane in
    let m = core_of s.counter s.room s.lanes.items in
    let h = may m c.args.self.now c.args.event e c.self.view_is c.in-Draw.is c.requires.may_come in
    draw_room s.counter s.room s.lanes.items c.in-Draw.lane c.index_mut.result.now (omega (arith, length-map s.lanes.items lane_of)) c.index_mut.ensures.value c.self.invariant
    (has_room m c.args.self.now c.args.event e c.self.view_is c.in-Draw.is c.requires.room)

pub invariant_of-self : goal.invariant_of-self
invariant_of-self c =
    let s = c.self.inside in
    let e = Draw c.in-Draw.lane in
    let m = core_of s.counter s.room s.lanes.items in
    let p = c.push_reserved.ensures in
    let h = may m c.args.self.now c.args.event e c.self.view_is c.in-Draw.is c.requires.may_come in
    draw_kept s.counter s.room s.lanes.items c.in-Draw.lane c.index_mut.result.now (omega (arith, length-map s.lanes.items lane_of)) c.index_mut.ensures.value c.self.invariant
    record { drawn = c.push_reserved.new.self; done = c.index_mut.result.now.done } p.items refl p.len refl p.capacity refl
    (has_room m c.args.self.now c.args.event e c.self.view_is c.in-Draw.is c.requires.room)

pub push_reserved-requires-in-Done : goal.push_reserved-requires-in-Done
push_reserved-requires-in-Done c =
    let s = c.self.inside in
    let e = Done c.in-Done.lane c.in-Done.number in
    let m = core_of s.counter s.room s.lanes.items in
    let h = may m c.args.self.now c.args.event e c.self.view_is c.in-Done.is c.requires.may_come in
    done_room s.counter s.room s.lanes.items c.in-Done.lane c.index_mut-in-Done.result.now (omega (arith, length-map s.lanes.items lane_of)) c.index_mut-in-Done.ensures.value c.self.invariant
    c.in-Done.number h.1 h.2

pub invariant_of-self-in-Done : goal.invariant_of-self-in-Done
invariant_of-self-in-Done c =
    let s = c.self.inside in
    let e = Done c.in-Done.lane c.in-Done.number in
    let m = core_of s.counter s.room s.lanes.items in
    let p = c.push_reserved-in-Done.ensures in
    let h = may m c.args.self.now c.args.event e c.self.view_is c.in-Done.is c.requires.may_come in
    done_kept s.counter s.room s.lanes.items c.in-Done.lane c.index_mut-in-Done.result.now (omega (arith, length-map s.lanes.items lane_of)) c.index_mut-in-Done.ensures.value c.self.invariant
    c.in-Done.number record { drawn = c.index_mut-in-Done.result.now.drawn; done = c.push_reserved-in-Done.new.self } p.items refl p.len refl p.capacity refl h.1 h.2

pub returns-in-Draw-clause-core : goal.returns-in-Draw-clause-core
returns-in-Draw-clause-core c =
    let s = c.self.inside in
    let e = Draw c.in-Draw.lane in
    let m = core_of s.counter s.room s.lanes.items in
    let h = may m c.args.self.now c.args.event e c.self.view_is c.in-Draw.is c.requires.may_come in
    same_after m c.args.self.now _ c.args.event e c.self.view_is c.in-Draw.is
    (draw_core s.counter s.room s.lanes.items c.in-Draw.lane c.index_mut.result.now (omega (arith, length-map s.lanes.items lane_of)) c.index_mut.ensures.value c.self.invariant
    record { drawn = c.push_reserved.new.self; done = c.index_mut.result.now.done } c.push_reserved.ensures.items refl)

pub returns-in-Done-clause-core : goal.returns-in-Done-clause-core
returns-in-Done-clause-core c =
    let s = c.self.inside in
    let e = Done c.in-Done.lane c.in-Done.number in
    let m = core_of s.counter s.room s.lanes.items in
    let h = may m c.args.self.now c.args.event e c.self.view_is c.in-Done.is c.requires.may_come in
    same_after m c.args.self.now _ c.args.event e c.self.view_is c.in-Done.is
    (done_core s.counter s.room s.lanes.items c.in-Done.lane c.index_mut-in-Done.result.now (omega (arith, length-map s.lanes.items lane_of)) c.index_mut-in-Done.ensures.value c.self.invariant
    c.in-Done.number record { drawn = c.index_mut-in-Done.result.now.drawn; done = c.push_reserved-in-Done.new.self } c.push_reserved-in-Done.ensures.items refl)
