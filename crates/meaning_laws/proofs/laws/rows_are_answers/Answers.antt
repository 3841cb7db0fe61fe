use Rattle.meaning_laws.proofs.Judging.{rows_are_answers}
use Rattle.meaning_laws.proofs.laws.rows_are_answers.Goals as goal

pub returns : goal.returns
returns c = rows_are_answers
