use Rattle.std.proofs.Common.{◌≡◌, ◌<◌, ◌+◌, ◌-◌, ◌∙◌, sym, rules, length}
use Rattle.row_text.proofs.Packing.{prev_first, prev_next}
use Rattle.row_text.proofs.packed.bounds.Goals as goal
use Rattle.row_text.proofs.packed.bounds.Goals.{then-number-eq0, else-number-eq0}

pub returns-clause-start : goal.returns-clause-start
returns-clause-start c = elim c.if-number-eq0.branch [
  | then-number-eq0 w ↦ rw (w.start-is, w.if-number-eq0.true) (sym (prev_first _))
  | else-number-eq0 w ↦
      let one : (c.args.number - 1) + 1 ≡ c.args.number = search rules in
      let lt : (c.args.number - 1) + 1 < length c.args.ends.now.items = rw one c.requires in
      let e = rw one at (prev_next 0 c.args.ends.now.items (c.args.number - 1) w.index.result.now lt) in
      w.start-is ∙ w.index.ensures ∙ sym e
]
