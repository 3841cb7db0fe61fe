use Rattle.meaning_laws.proofs.Deciding.{quiet_meets}
use Rattle.meaning_laws.proofs.laws.quiet_meets.Goals as goal

pub returns : goal.returns
returns c = quiet_meets
