use Rattle.accessible_copy.proofs.Writing.{written_run}
use Rattle.accessible_copy.proofs.laws.log_is_run.Goals as goal

pub returns : goal.returns
returns c = λ schema proof is. written_run schema proof.constants 0 proof.start proof.entries proof.end is.written
