use Rattle.world_laws.proofs.Query.{is_statement, statement_alone}
use Rattle.world_laws.proofs.laws.statement_of_a_world.Goals as goal

pub returns-clause-read : goal.returns-clause-read
returns-clause-read c = is_statement

pub returns-clause-alone : goal.returns-clause-alone
returns-clause-alone c = statement_alone
