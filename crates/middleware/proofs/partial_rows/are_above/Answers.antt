use Rattle.std.proofs.Common.{◌≡◌, ◌∙◌, [], get_or, map, sym}
use Rattle.std.specs.declared.cmp.Ordering.TheVariants.{Greater}
use Rattle.row_text.specs.RowText.{row_cmp}
use Rattle.middleware.proofs.Orders.{above_from, greater_of}
use Rattle.middleware.proofs.partial_rows.are_above.Goals as goal

pub returns : goal.returns
returns c = λ yes.
    let row = map (λ s. s.now) c.args.values.now in
    let greater : row_cmp (get_or c.args.rows.now c.args.place []) row ≡ Greater = rw (← c.at.ensures) (sym c.compare.ensures ∙ greater_of c.compare.result (sym c.is_gt.ensures ∙ yes)) in
    above_from c.args.rows.now row c.args.place c.requires.ascends greater
