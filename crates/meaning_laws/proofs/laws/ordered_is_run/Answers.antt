use Rattle.meaning_laws.proofs.Kept.{ordered_is_run}
use Rattle.meaning_laws.proofs.laws.ordered_is_run.Goals as goal

pub returns : goal.returns
returns c = ordered_is_run
