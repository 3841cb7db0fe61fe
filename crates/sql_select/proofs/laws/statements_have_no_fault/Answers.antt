use Rattle.sql_select.proofs.Unique.{no_fault}
use Rattle.sql_select.proofs.laws.statements_have_no_fault.Goals as goal

pub returns : goal.returns
returns c = no_fault
