use Rattle.accessible_copy.proofs.Writing.{same_log}
use Rattle.accessible_copy.proofs.laws.log_fixes.Goals as goal

pub returns : goal.returns
returns c = same_log
