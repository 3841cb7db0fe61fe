use Rattle.std.proofs.Common.{◌∙◌, sym, ap}
use Rattle.no_plan_witness.specs.Texts.{Column, text_in}
use Rattle.no_plan_witness.proofs.Looking.{text_hit, text_missed}
use Rattle.no_plan_witness.proofs.naming.Column.text.Goals as goal

pub returns-in-Ok-clause-some : goal.returns-in-Ok-clause-some
returns-in-Ok-clause-some c other =
    text_hit c.as_slice.result.now c.self.inside.labels.items c.self.inside.texts.items other c.in-Ok.place c.args.label c.index.result.now c.as_slice.ensures.value c.in-Ok.ensures.position c.self.invariant.0 c.self.invariant.1 c.index.ensures
    ∙ ap (λ (column : Column). text_in column other c.args.label) c.self.view_is

pub returns-in-Err-clause-none : goal.returns-in-Err-clause-none
returns-in-Err-clause-none c other =
    sym (ap (λ (column : Column). text_in column other c.args.label) c.self.view_is)
    ∙ text_missed c.as_slice.result.now c.self.inside.labels.items c.self.inside.texts.items other c.in-Err.field-0 c.args.label c.as_slice.ensures.value c.in-Err.ensures.position c.self.invariant.0
