use Rattle.meaning_laws.proofs.Members.{answers_within}
use Rattle.meaning_laws.proofs.laws.answers_grow.Goals as goal

pub returns : goal.returns
returns c = λ statement first second row. answers_within first second statement row
