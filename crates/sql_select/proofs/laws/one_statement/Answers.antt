use Rattle.sql_select.proofs.Unique.{one_statement}
use Rattle.sql_select.proofs.laws.one_statement.Goals as goal

pub returns : goal.returns
returns c = one_statement
