use Rattle.std.proofs.Common.{◌∙◌}
use Rattle.sql_select.proofs.Wide.{offset_within, offset_is}
use Rattle.sql_select.proofs.raw.width_fault.Goals as goal

pub bounds-as_slice-number : goal.bounds-as_slice-number
bounds-as_slice-number c = offset_within c.args.text.now c.args.tokens.now c.args.raws.now c.args.number c.as_slice.result.now (c.as_slice.ensures ∙ c.in-Ok.ensures) c.requires.reads c.requires.other

pub returns-in-Ok : goal.returns-in-Ok
returns-in-Ok c = (
  c.args.raws.now,
  c.args.tokens.now,
  c.requires.are,
  c.requires.reads,
  c.requires.within,
  (
    c.args.number,
    c.requires.other,
    offset_is c.args.text.now c.args.tokens.now c.args.raws.now c.args.number c.as_slice.result.now (c.as_slice.ensures ∙ c.in-Ok.ensures) c.requires.reads c.requires.other 0,
  ),
)
