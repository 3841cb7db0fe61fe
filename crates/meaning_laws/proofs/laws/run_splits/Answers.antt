use Rattle.meaning_laws.proofs.Running.{plain_split, run_split}
use Rattle.meaning_laws.proofs.laws.run_splits.Goals as goal

pub returns-clause-run : goal.returns-clause-run
returns-clause-run c = plain_split

pub returns-clause-ordered : goal.returns-clause-ordered
returns-clause-ordered c = run_split
