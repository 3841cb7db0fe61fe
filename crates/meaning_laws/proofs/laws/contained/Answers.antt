use Rattle.meaning_laws.proofs.Judging.{contained}
use Rattle.meaning_laws.proofs.laws.contained.Goals as goal

pub returns : goal.returns
returns c = contained
