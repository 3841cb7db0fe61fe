-- The row that has the values, by where the function returns.
use Rattle.std.proofs.Common.{◌∙◌, sym, arith}
use Rattle.std.proofs.lemmas.Bool.{ltb-false}
use Rattle.world_source.proofs.Rows.{shape, no_row, row_before, row_at, row_apart}
use Rattle.world_source.proofs.formula.Formula.number_with.Goals as goal

pub returns-in_default : goal.returns-in_default
returns-in_default c =
    let self = c.args.self in
    no_row self.step self.count self.some self.few c.args.positions.now c.args.values.now c.index-values-0.result (shape c.args.positions.now c.args.values.now c.requires.key) c.requires.some c.index-values-0.is c.in_default.ensures

pub returns-then-positions-eq1 : goal.returns-then-positions-eq1
returns-then-positions-eq1 c =
    let self = c.args.self in
    let leads = c.before-then-positions-eq1.ensures in (
      leads.below,
      row_before self.step self.count self.some self.few c.args.positions.now c.args.values.now c.index-values-0.result c.in-Some.number c.before-then-positions-eq1.result
          (shape c.args.positions.now c.args.values.now c.requires.key) c.requires.some c.if-positions-eq1.true c.index-values-0.is c.in-Some.ensures.0 c.in-Some.ensures.1 leads.below leads.leads,
    )

pub returns-in-Some-get : goal.returns-in-Some-get
returns-in-Some-get c =
    let self = c.args.self in
    let at = c.in-Some-get.ensures.lookup in
    row_apart self.step self.count self.some self.few c.args.positions.now c.args.values.now c.index-values-0.result c.in-Some-get.second.now c.in-Some.number
    (shape c.args.positions.now c.args.values.now c.requires.key) c.requires.some c.index-values-0.is c.in-Some.ensures.0 c.in-Some.ensures.1 at.3.0 at.1
    (λ is. let yes = c.leads_to.ensures.1 is in let no = c.if-not-leads_to.true in absurd (cc))

pub returns-in_default-get : goal.returns-in_default-get
returns-in_default-get c =
    let self = c.args.self in (
      c.in-Some.ensures.1,
      row_at self.step self.count self.some self.few c.args.positions.now c.args.values.now c.index-values-0.result c.in-Some.number
          (shape c.args.positions.now c.args.values.now c.requires.key) c.requires.some c.if-positions-eq1.false c.index-values-0.is c.in-Some.ensures.0 c.in-Some.ensures.1
          (λ two. sym (c.in-Some-get.ensures.lookup.3.1 _) ∙ c.leads_to.ensures.0 c.if-not-leads_to.false),
    )

pub returns-in_default-get-2 : goal.returns-in_default-get-2
returns-in_default-get-2 c =
    let self = c.args.self in (
      c.in-Some.ensures.1,
      row_at self.step self.count self.some self.few c.args.positions.now c.args.values.now c.index-values-0.result c.in-Some.number
          (shape c.args.positions.now c.args.values.now c.requires.key) c.requires.some c.if-positions-eq1.false c.index-values-0.is c.in-Some.ensures.0 c.in-Some.ensures.1
          (λ two. let short = ltb-false 1 _ (sym (rw c.in_default-get.is at c.get.ensures.lookup.0)) in absurd (omega (arith, short, two))),
    )
