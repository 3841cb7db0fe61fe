use Rattle.std.proofs.Common.{◌≡◌, ◌∙◌, sym, ap, true, false, None, Some}
use Rattle.std.specs.Prelude.{◌==◌, length, cond, Option, Bool}
use Rattle.std.proofs.lemmas.Bool.{eq-eqb, ne_eqb}
use Rattle.meaning.specs.declared.types.Fact.{Fact}
use Rattle.explain.proofs.Relations.{fact_none, fact_there, number_lost}
use Rattle.explain.proofs.progress.fitting.Goals as goal

pub returns-in_err-rel : goal.returns-in_err-rel
returns-in_err-rel c = c.from_residual.ensures ∙ sym (fact_none c.args.schema.now.relations c.args.name.now c.args.row c.in_err-rel.ensures)

pub returns-in_err-relation : goal.returns-in_err-relation
returns-in_err-relation c = absurd (number_lost c.args.schema.now.relations c.in_ok-rel.rel c.args.name.now c.in_ok-rel.ensures c.in_err-relation.ensures)

abbrev chosen : Fact → Bool → Option Fact
chosen fact b = cond b (Some fact) None

pub returns-then-len : goal.returns-then-len
returns-then-len c =
    let there = fact_there c.args.schema.now c.args.name.now c.in_ok-rel.rel c.in_ok-relation.relation.now c.args.row c.in_ok-rel.ensures (sym c.in_ok-relation.ensures) in
    let fact : Fact = record { rel = c.in_ok-rel.rel; row = c.args.row } in
    let wide : (length c.args.row == length c.in_ok-relation.relation.now.columns) ≡ true = eq-eqb _ _ (sym c.len.ensures ∙ c.if-len.true ∙ c.len-2.ensures) in
    sym (there ∙ ap (chosen fact) wide)

pub returns-else-len : goal.returns-else-len
returns-else-len c =
    let there = fact_there c.args.schema.now c.args.name.now c.in_ok-rel.rel c.in_ok-relation.relation.now c.args.row c.in_ok-rel.ensures (sym c.in_ok-relation.ensures) in
    let fact : Fact = record { rel = c.in_ok-rel.rel; row = c.args.row } in
    let other : (length c.args.row == length c.in_ok-relation.relation.now.columns) ≡ false = ne_eqb _ _ (λ e. c.if-len.false (c.len.ensures ∙ e ∙ sym c.len-2.ensures)) in
    sym (there ∙ ap (chosen fact) other)
