use Rattle.std.proofs.Common.{◌≡◌, ◌-◌, [], length}
use Rattle.pq_text.specs.Lexemes.{members}
use Rattle.pq_text.proofs.cursor.Cursor.members.Given as goal

abbrev pub invariant-loop : goal.invariant-loop
invariant-loop g l = members (g.F.Form.at l.form) (length l.fn.self - l.counter) l.list l.self ≡ members (g.F.Form.at l.form) (length l.fn.self) [] l.fn.self
