use Rattle.meaning_laws.proofs.Choosing.{select_complete}
use Rattle.meaning_laws.proofs.laws.select_complete.Goals as goal

pub returns : goal.returns
returns c = select_complete
