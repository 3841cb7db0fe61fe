use Rattle.world_laws.proofs.Counts.{requests_counted, requests_within}
use Rattle.world_laws.proofs.laws.requests_of_a_world.Goals as goal

pub returns-clause-count : goal.returns-clause-count
returns-clause-count c = λ n branch requests some few rival costs are. requests_counted n some few branch requests rival costs are

pub returns-clause-within : goal.returns-clause-within
returns-clause-within c = λ n branch k step earlier now some few rival costs at are round. requests_within n some few branch k step earlier now rival costs at are round
