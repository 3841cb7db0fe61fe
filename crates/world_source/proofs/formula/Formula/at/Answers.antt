-- The numbers before and behind the first slash.
use Rattle.std.proofs.Common.{◌∙◌, ap, Some, arith}
use Rattle.std.proofs.lemmas.Str.Pattern.{split_once_first}
use Rattle.world_source.specs.Formulas.{numbers_of}
use Rattle.world_source.proofs.Numbers.{both_there}
use Rattle.world_source.proofs.formula.Formula.at.Goals as goal

pub returns : goal.returns
returns c =
    let t = c.as_str.result.now in
    let parts = split_once_first 47 t (Some (c.in-Some.step, c.in-Some.count)) c.in-Some.ensures.cases (omega arith) in
    c.formula_of.ensures
    ∙ both_there t c.in_ok-step.step c.in_ok-count.count (c.in_ok-step.ensures ∙ parts.1) (c.in_ok-count.ensures ∙ parts.2) c.in-Some-plain_number.step c.in-Some-plain_number-2.count
    (omega arith) (omega arith) c.in-Some-plain_number.ensures c.in-Some-plain_number-2.ensures
    ∙ ap numbers_of c.as_str.ensures
