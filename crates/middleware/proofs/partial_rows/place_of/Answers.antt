use Rattle.std.proofs.Common.{◌≡◌, ◌+◌, ◌-◌, ◌/◌, ◌<◌, ◌∙◌, [], get_or, length, map, sym, arith}
use Rattle.std.specs.declared.cmp.Ordering.TheVariants.{Less, Equal, Greater}
use Rattle.row_text.specs.RowText.{row_cmp}
use Rattle.middleware.proofs.Orders.{below_up_to, above_from, found_here, not_among}
use Rattle.middleware.proofs.partial_rows.place_of.Goals as goal

pub loop-low-preserved-in-Less : goal.loop-low-preserved-in-Less
loop-low-preserved-in-Less c =
    let middle = c.loop-low.low + (c.loop-low.high - c.loop-low.low) / 2 in
    let row = map (λ s. s.now) c.args.values.now in
    let within : middle < length c.args.rows.now = omega arith in
    let less : row_cmp (get_or c.args.rows.now middle []) row ≡ Less = rw (← c.at.ensures) (sym c.compare.ensures ∙ c.in-Less.is) in
    record {
      order = omega arith;
      within = omega arith;
      below = below_up_to c.args.rows.now row middle c.requires.ascends within less;
      above = c.loop-low.invariant.above;
    }

pub returns-in-Equal-clause-there : goal.returns-in-Equal-clause-there
returns-in-Equal-clause-there c =
    let middle = c.loop-low.low + (c.loop-low.high - c.loop-low.low) / 2 in
    let row = map (λ s. s.now) c.args.values.now in
    let within : middle < length c.args.rows.now = omega arith in
    let tie : row_cmp (get_or c.args.rows.now middle []) row ≡ Equal = rw (← c.at.ensures) (sym c.compare.ensures ∙ c.in-Equal.is) in
    found_here c.args.rows.now row middle within tie

pub loop-low-preserved : goal.loop-low-preserved
loop-low-preserved c =
    let middle = c.loop-low.low + (c.loop-low.high - c.loop-low.low) / 2 in
    let row = map (λ s. s.now) c.args.values.now in
    let greater : row_cmp (get_or c.args.rows.now middle []) row ≡ Greater = rw (← c.at.ensures) (sym c.compare.ensures ∙ c.in-Greater.is) in
    record {
      order = omega arith;
      within = omega arith;
      below = c.loop-low.invariant.below;
      above = above_from c.args.rows.now row middle c.requires.ascends greater;
    }

pub returns-clause-absent : goal.returns-clause-absent
returns-clause-absent c = λ none among.
    not_among c.args.rows.now (map (λ s. s.now) c.args.values.now) c.loop-low.low c.loop-low.high (omega arith) c.loop-low.invariant.below c.loop-low.invariant.above among
