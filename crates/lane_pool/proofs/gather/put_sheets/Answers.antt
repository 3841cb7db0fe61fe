use Rattle.std.proofs.Common.{◌∙◌, ◌∷◌, [], ap, map, vec_items}
use Rattle.std.proofs.lemmas.List.{map-append}
use Rattle.lane_pool.proofs.Places.{sheets_step, last_sheet}
use Rattle.lane_pool.proofs.gather.put_sheets.Goals as goal

pub put_sheet-requires : goal.put_sheet-requires
put_sheet-requires g c =
    let l = c.loop-sheet in
    last_sheet l.places (map vec_items l.sheets.items) (map vec_items c.pop.new.self.items) c.in-Some.sheet.items
    (ap (map vec_items) c.in-Some.ensures.items ∙ map-append vec_items c.pop.new.self.items (c.in-Some.sheet ∷ [])) l.invariant.inside

pub loop-sheet-preserved : goal.loop-sheet-preserved
loop-sheet-preserved g c =
    let l = c.loop-sheet in
    let s = sheets_step l.places c.put_sheet.new.places _ (map vec_items l.sheets.items) (map vec_items c.pop.new.self.items) c.in-Some.sheet.items
    (ap (map vec_items) c.in-Some.ensures.items ∙ map-append vec_items c.pop.new.self.items (c.in-Some.sheet ∷ [])) c.put_sheet.ensures l.invariant.same l.invariant.inside in
    record { same = s.0; inside = s.1 }
