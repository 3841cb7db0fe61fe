use Rattle.std.proofs.Common.{arith}
use Rattle.world_laws.proofs.Read.{world_schema, world_is_itself, world_is_read, world_alone, world_meaning}
use Rattle.world_laws.proofs.laws.schema_of_a_world.Goals as goal

pub returns-clause-read : goal.returns-clause-read
returns-clause-read c = λ n few. (world_schema n, world_is_itself n, world_is_read n (omega (arith, few)))

pub returns-clause-alone : goal.returns-clause-alone
returns-clause-alone c = λ n schema few is. world_alone n (omega (arith, few)) schema is

pub returns-clause-meaning : goal.returns-clause-meaning
returns-clause-meaning c = world_meaning
