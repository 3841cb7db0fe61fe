use Rattle.std.proofs.Common.{◌≡◌, ◌<◌, ◌-◌, ◌∙◌, [], get_or, length, map, sym, arith}
use Rattle.std.specs.declared.cmp.Ordering.TheVariants.{Less}
use Rattle.row_text.specs.RowText.{row_cmp}
use Rattle.middleware.proofs.Orders.{below_up_to, less_of}
use Rattle.middleware.proofs.partial_rows.are_below.Goals as goal

pub returns : goal.returns
returns c = λ yes k low.
    let last = c.args.place - 1 in
    let row = map (λ s. s.now) c.args.values.now in
    let within : last < length c.args.rows.now = omega arith in
    let less : row_cmp (get_or c.args.rows.now last []) row ≡ Less = rw (← c.at.ensures) (sym c.compare.ensures ∙ less_of c.compare.result (sym c.is_lt.ensures ∙ yes)) in
    below_up_to c.args.rows.now row last c.requires.ascends within less k (omega arith)
