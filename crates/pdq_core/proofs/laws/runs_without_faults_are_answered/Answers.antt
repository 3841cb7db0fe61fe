use Rattle.pdq_core.proofs.Complete.{whole}
use Rattle.pdq_core.proofs.laws.runs_without_faults_are_answered.Goals as goal

pub returns : goal.returns
returns g c = whole g.S.Source.seen c.words_are_one_command.ensures
