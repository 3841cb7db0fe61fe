use Rattle.std.proofs.Common.{◌∙◌, sym, arith}
use Rattle.std.proofs.lemmas.Fmt.{decimal_injective}
use Rattle.world_source.proofs.formula.Formula.number_of.Goals as goal

pub returns-in_default : goal.returns-in_default
returns-in_default c = λ n below is.
    let same = decimal_injective n c.in-Some.number (omega (arith, c.args.self.few)) (omega arith) (sym is ∙ c.in-Some.ensures) in
    omega (arith, same, c.if-number-self.false)
