use Rattle.meaning_laws.proofs.Decided.{read_from_run}
use Rattle.meaning_laws.proofs.laws.read_from_run.Goals as goal

pub returns : goal.returns
returns c = read_from_run
