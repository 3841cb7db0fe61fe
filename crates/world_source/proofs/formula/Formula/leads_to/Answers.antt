use Rattle.std.proofs.Common.{◌+◌, ◌%◌, ◌∙◌, sym, ap}
use Rattle.std.specs.Fmt.{decimal}
use Rattle.std.proofs.lemmas.Bool.{eqb-true, eq-eqb}
use Rattle.world_source.proofs.Rows.{same_number, round}
use Rattle.world_source.proofs.formula.Formula.leads_to.Goals as goal

pub returns-in-Some : goal.returns-in-Some
returns-in-Some c =
    let self = c.args.self in
    let same = same_number self.step self.count self.some self.few c.in-Some.other ((c.args.number + self.step) % self.count) c.in-Some.ensures.1 (round self.step self.count self.some self.few c.args.number) in (
      λ is. c.in-Some.ensures.0 ∙ ap decimal (eqb-true c.in-Some.other c.next.result is ∙ c.next.ensures),
      λ is. eq-eqb c.in-Some.other c.next.result (same (sym c.in-Some.ensures.0 ∙ is) ∙ sym c.next.ensures),
    )
