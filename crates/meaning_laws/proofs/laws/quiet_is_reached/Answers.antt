use Rattle.meaning_laws.proofs.Quieting.{quiet_is_reached}
use Rattle.meaning_laws.proofs.laws.quiet_is_reached.Goals as goal

pub returns : goal.returns
returns c = quiet_is_reached
