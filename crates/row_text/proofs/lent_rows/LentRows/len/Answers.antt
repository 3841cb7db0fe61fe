use Rattle.std.proofs.Common.{sym}
use Rattle.row_text.proofs.Packing.{part_size}
use Rattle.row_text.proofs.lent_rows.LentRows.len.Goals as goal

pub returns : goal.returns
returns c = rw (← c.self.view_is) (sym (part_size c.self.inside.rows.now c.self.inside.start c.self.inside.end c.self.invariant.0 c.self.invariant.1))
