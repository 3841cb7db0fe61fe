use Rattle.sql_batch.proofs.Single.{one_query}
use Rattle.sql_batch.proofs.laws.one_query_is_a_batch.Goals as goal

pub returns : goal.returns
returns c = one_query
