use Rattle.meaning_laws.proofs.Running.{plain_push, run_push}
use Rattle.meaning_laws.proofs.laws.run_goes_on.Goals as goal

pub returns-clause-run : goal.returns-clause-run
returns-clause-run c = plain_push

pub returns-clause-ordered : goal.returns-clause-ordered
returns-clause-ordered c = run_push
