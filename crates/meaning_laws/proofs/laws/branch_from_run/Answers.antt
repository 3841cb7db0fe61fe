use Rattle.meaning_laws.proofs.Decided.{branch_from_run}
use Rattle.meaning_laws.proofs.laws.branch_from_run.Goals as goal

pub returns : goal.returns
returns c = branch_from_run
