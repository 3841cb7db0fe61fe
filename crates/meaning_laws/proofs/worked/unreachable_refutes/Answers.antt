use Rattle.meaning_laws.proofs.StaffPlans.{unreachable_refutes}
use Rattle.meaning_laws.proofs.worked.unreachable_refutes.Goals as goal

pub returns : goal.returns
returns c = unreachable_refutes
