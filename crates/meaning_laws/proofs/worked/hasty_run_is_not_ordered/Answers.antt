use Rattle.meaning_laws.proofs.Example.{hasty_run, hasty_is_not_ordered}
use Rattle.meaning_laws.proofs.worked.hasty_run_is_not_ordered.Goals as goal

pub returns-clause-run : goal.returns-clause-run
returns-clause-run c = hasty_run

pub returns-clause-not_ordered : goal.returns-clause-not_ordered
returns-clause-not_ordered c = hasty_is_not_ordered
