use Rattle.std.proofs.Common.{◌∙◌, Some, ap, sym, arith}
use Rattle.csv.specs.Records.{fields_of}
use Rattle.row_text.proofs.Packing.{part_get, part_past}
use Rattle.row_text.proofs.lent.LentRow.value.Goals as goal

pub returns-then-column-self : goal.returns-then-column-self
returns-then-column-self c = rw (← c.self.view_is) (ap Some c.text_at.ensures ∙ sym (part_get (fields_of c.self.inside.values.now) c.self.inside.start c.self.inside.end c.args.column c.self.invariant.0 c.self.invariant.1 c.if-column-self.true))

pub returns-else-column-self : goal.returns-else-column-self
returns-else-column-self c = rw (← c.self.view_is) (sym (part_past (fields_of c.self.inside.values.now) c.self.inside.start c.self.inside.end c.args.column c.self.invariant.0 c.self.invariant.1 (omega (arith, c.if-column-self.false))))
