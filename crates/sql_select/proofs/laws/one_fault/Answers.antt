use Rattle.sql_select.proofs.Unique.{one_fault}
use Rattle.sql_select.proofs.laws.one_fault.Goals as goal

pub returns : goal.returns
returns c = one_fault
