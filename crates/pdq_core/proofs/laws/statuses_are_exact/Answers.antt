use Rattle.pdq_core.proofs.Exact.{not_undecided, exactly_none}
use Rattle.pdq_core.proofs.laws.statuses_are_exact.Goals as goal

pub returns-clause-undecided : goal.returns-clause-undecided
returns-clause-undecided g c = not_undecided g.S.Source.seen c.words_are_one_command.ensures

pub returns-clause-none : goal.returns-clause-none
returns-clause-none g c = exactly_none g.S.Source.seen c.words_are_one_command.ensures
