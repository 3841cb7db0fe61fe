use Rattle.std.proofs.Common.{◌≤◌, ◌<◌, ◌∙◌, Some, [], ap, length, sym, arith}
use Rattle.std.proofs.lemmas.Option.{slice_get-get_or, slice_get_past}
use Rattle.row_text.specs.Packed.{cut_at}
use Rattle.row_text.proofs.Packing.{length-cut_at}
use Rattle.middleware.proofs.answers.Answers.get.Goals as goal

pub returns-then-number-len : goal.returns-then-number-len
returns-then-number-len c =
    let answers = cut_at 0 c.self.inside.ends.items c.self.inside.rows in
    let below : c.args.number < length answers = omega (arith, c.self.inside.ends.ok.0, length-cut_at 0 c.self.inside.ends.items c.self.inside.rows) in
    rw (← c.self.view_is) (ap Some c.part.ensures ∙ sym (slice_get-get_or answers c.args.number [] below))

pub returns-else-number-len : goal.returns-else-number-len
returns-else-number-len c =
    let answers = cut_at 0 c.self.inside.ends.items c.self.inside.rows in
    let past : length answers ≤ c.args.number = omega (arith, c.self.inside.ends.ok.0, length-cut_at 0 c.self.inside.ends.items c.self.inside.rows) in
    rw (← c.self.view_is) (sym (slice_get_past answers c.args.number past))
