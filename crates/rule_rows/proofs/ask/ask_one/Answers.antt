-- The source of the relation's line was asked without positions.
use Rattle.std.proofs.Common.{refl}
use Rattle.rule_rows.proofs.ask.ask_one.Goals as goal

pub line_of-line-requires : goal.line_of-line-requires
line_of-line-requires g c = let is = c.requires.line_is in rw is refl

pub returns-clause-asks : goal.returns-clause-asks
returns-clause-asks g c = record {
  line = c.line_of-line.result.now;
  line_is = c.line_of-line.ensures;
  steps = simp (c.new-positions.ensures, c.new-values.ensures) at c.call_on.ensures.steps;
}
