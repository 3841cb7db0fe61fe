use Rattle.std.proofs.Common.{◌∙◌, sym}
use Rattle.middleware.proofs.Whole.{first_is}
use Rattle.middleware.proofs.whole_answer.is_first.Goals as goal

pub returns : goal.returns
returns c = λ true. first_is c.args.rows.now (sym c.len.ensures ∙ c.if-len-ne1.false) (c.have_arity.ensures true)
