use Rattle.batch_laws.proofs.Answered.{batch_decides, run_decides}
use Rattle.batch_laws.proofs.laws.one_query_has_one_decision.Goals as goal

pub returns-clause-run_done : goal.returns-clause-run_done
returns-clause-run_done g c = run_decides g.S.Source.seen

pub returns-clause-batch_done : goal.returns-clause-batch_done
returns-clause-batch_done g c = batch_decides g.S.Source.seen
