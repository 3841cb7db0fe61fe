use Rattle.std.proofs.Common.{◌∙◌}
use Rattle.row_text.proofs.Packing.{only_part}
use Rattle.middleware.proofs.answers.Answers.into_rows.Goals as goal

pub returns : goal.returns
returns c = λ answer is. only_part c.self.inside.ends.items c.self.inside.rows answer c.self.invariant (c.self.view_is ∙ is)
