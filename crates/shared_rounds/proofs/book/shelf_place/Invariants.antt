use Rattle.shared_rounds.proofs.Booking.{NoneBefore}
use Rattle.shared_rounds.proofs.book.shelf_place.Given as goal

abbrev pub invariant-loop-place : goal.invariant-loop-place
invariant-loop-place l = NoneBefore l.shelves.items l.rel l.positions l.place
