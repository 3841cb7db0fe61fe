use Rattle.std.proofs.Common.{◌<◌, length, refl, sym, arith}
use Rattle.row_text.specs.Packed.{cut_at}
use Rattle.row_text.proofs.Packing.{got_part, length-cut_at}
use Rattle.row_text.proofs.lent_rows.LentRows.part.Goals as goal

pub invariant_of-result : goal.invariant_of-result
invariant_of-result c =
    let rows = c.args.rows.now in
    let ends = c.args.ends.now.items in
    let below : c.args.number < length (cut_at 0 ends rows) = omega (arith, length-cut_at 0 ends rows, c.requires.number) in
    let part = got_part (cut_at 0 ends rows) ends rows c.args.number c.bounds-start.result.0 c.bounds-start.result.1 refl c.requires.ends below c.bounds-start.ensures.start c.bounds-start.ensures.end in
    (part.order, part.within)

pub returns : goal.returns
returns c =
    let rows = c.args.rows.now in
    let ends = c.args.ends.now.items in
    let below : c.args.number < length (cut_at 0 ends rows) = omega (arith, length-cut_at 0 ends rows, c.requires.number) in
    sym (got_part (cut_at 0 ends rows) ends rows c.args.number c.bounds-start.result.0 c.bounds-start.result.1 refl c.requires.ends below c.bounds-start.ensures.start c.bounds-start.ensures.end).is
