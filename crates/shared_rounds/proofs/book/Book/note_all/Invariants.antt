use Rattle.std.proofs.Common.{take}
use Rattle.shared_rounds.specs.Books.{IsPlace, NotesAll}
use Rattle.shared_rounds.proofs.book.Book.note_all.Given as goal

abbrev pub invariant-loop-number : goal.invariant-loop-number
invariant-loop-number l = record {
  notes : NotesAll l.kind l.rel l.positions (take l.number l.list) l.fn.self l.self l.numbers.items;
  place : IsPlace l.self.shelves.items l.rel l.positions l.place;
}
