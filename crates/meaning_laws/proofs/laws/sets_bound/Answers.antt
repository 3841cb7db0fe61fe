use Rattle.meaning_laws.proofs.Searching.{sets_bound}
use Rattle.meaning_laws.proofs.laws.sets_bound.Goals as goal

pub returns : goal.returns
returns c = sets_bound
