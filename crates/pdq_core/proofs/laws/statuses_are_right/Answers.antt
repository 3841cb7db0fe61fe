use Rattle.pdq_core.proofs.Statuses.{whole}
use Rattle.pdq_core.proofs.laws.statuses_are_right.Goals as goal

pub returns : goal.returns
returns g c = whole g.S.Source.seen c.words_are_one_command.ensures
