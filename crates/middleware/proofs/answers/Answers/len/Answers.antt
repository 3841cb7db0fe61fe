use Rattle.std.proofs.Common.{◌∙◌, sym}
use Rattle.row_text.proofs.Packing.{length-cut_at}
use Rattle.middleware.proofs.answers.Answers.len.Goals as goal

pub returns : goal.returns
returns c = rw (← c.self.view_is) (c.len.ensures ∙ c.self.inside.ends.ok.0 ∙ sym (length-cut_at 0 c.self.inside.ends.items c.self.inside.rows))
