use Rattle.meaning_laws.proofs.StaffRun.{smiths_run, smiths_goal}
use Rattle.meaning_laws.proofs.worked.smiths_run.Goals as goal

pub returns-clause-run : goal.returns-clause-run
returns-clause-run c = smiths_run

pub returns-clause-goal : goal.returns-clause-goal
returns-clause-goal c = smiths_goal
