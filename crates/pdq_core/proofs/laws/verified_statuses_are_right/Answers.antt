use Rattle.pdq_core.proofs.VerifiedStatuses.{verified_whole}
use Rattle.pdq_core.proofs.laws.verified_statuses_are_right.Goals as goal

pub returns : goal.returns
returns g c = verified_whole g.S.Source.seen c.words_are_one_command.ensures
