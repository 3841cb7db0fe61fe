use Rattle.meaning_laws.proofs.Closing.{accessible_closed}
use Rattle.meaning_laws.proofs.laws.accessible_closed.Goals as goal

pub returns : goal.returns
returns c = accessible_closed
