use Rattle.std.proofs.Common.{refl, arith}
use Rattle.std.specs.Vec.{with_item}
use Rattle.shared_rounds.proofs.Booking.{notes_alike, notes_more, place_stays}
use Rattle.shared_rounds.proofs.book.Book.note_all.Goals as goal

pub loop-number-preserved : goal.loop-number-preserved
loop-number-preserved c = record {
  notes = notes_more c.args.kind.now c.args.rel c.args.positions.now c.args.list.now c.args.self.now c.loop-number.number c.at.result (omega arith) c.at.ensures
      c.in_ok-place.place c.loop-number.self (record { shelves = with_item c.loop-number.self.shelves c.in_ok-place.place c.note.new.shelf; asked = c.note.new.asked })
      c.index_mut.result.now c.note.new.shelf c.loop-number.numbers.items c.push.new.self.items c.in_ok-found.found c.loop-number.invariant.notes c.loop-number.invariant.place
      c.index_mut.ensures.value refl c.in_ok-found.ensures c.in_ok-push.ensures.items;
  place =
      let same = notes_alike c.args.kind.now c.args.rel c.args.positions.now c.args.list.now c.args.self.now c.loop-number.number c.at.result (omega arith) c.at.ensures
      c.index_mut.result.now c.note.new.shelf c.loop-number.self.asked.items c.note.new.asked.items c.in_ok-found.found c.in_ok-found.ensures in
      place_stays c.args.kind.now c.args.rel c.args.positions.now c.args.list.now c.args.self.now c.loop-number.number c.at.result (omega arith) c.at.ensures
      c.in_ok-place.place c.loop-number.self.shelves.items c.index_mut.result.now c.note.new.shelf c.loop-number.invariant.place c.index_mut.ensures.value same.0 same.1;
}
