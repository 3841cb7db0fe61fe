use Rattle.std.proofs.Common.{◌≡◌, ◌++◌, take, map}
use Rattle.std.specs.Prelude.{flat_map}
use Rattle.csv.specs.Writing.{default_writer, row_text, writer_pending, writer_under}
use Rattle.row_text.specs.Writer.{IsReady}
use Rattle.row_text.proofs.text.written.Given as goal

-- the writer stands between two rows, and took the names and the rows so far
abbrev pub invariant-loop-member : goal.invariant-loop-member
invariant-loop-member l = record {
  ready : IsReady l.writer;
  taken : (writer_under l.writer).items ++ writer_pending l.writer ≡ row_text default_writer l.names ++ flat_map (row_text default_writer) (map (λ m. m.row) (take l.member-index l.members));
}
