use Rattle.lane_pool.proofs.Places.{sheet_step}
use Rattle.lane_pool.proofs.gather.put_sheet.Goals as goal

pub loop-at-preserved-in-Some : goal.loop-at-preserved-in-Some
loop-at-preserved-in-Some g c =
    let l = c.loop-at in
    let s = sheet_step l.places _ l.sheet.items c.pop.new.self.items c.in-Some.at c.in-Some.answer c.in-Some.ensures.items l.invariant.same l.invariant.inside in
    record { same = s.0; inside = s.1 }

pub loop-at-preserved : goal.loop-at-preserved
loop-at-preserved g c =
    let l = c.loop-at in
    let s = sheet_step l.places _ l.sheet.items c.pop.new.self.items c.in-Some.at c.in-Some.answer c.in-Some.ensures.items l.invariant.same l.invariant.inside in
    record { same = s.0; inside = s.1 }
