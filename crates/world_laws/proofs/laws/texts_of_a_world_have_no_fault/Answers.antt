use Rattle.std.proofs.Common.{arith}
use Rattle.world_laws.proofs.Read.{world_alone, world_no_fault}
use Rattle.world_laws.proofs.Query.{query_no_fault}
use Rattle.world_laws.proofs.laws.texts_of_a_world_have_no_fault.Goals as goal

pub returns-clause-schema : goal.returns-clause-schema
returns-clause-schema c = λ n fault few has. world_no_fault n (omega (arith, few)) fault has

pub returns-clause-query : goal.returns-clause-query
returns-clause-query c = λ n schema fault few is has. query_no_fault n schema fault (world_alone n (omega (arith, few)) schema is) has
