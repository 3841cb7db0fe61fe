use Rattle.world_laws.proofs.Counts.{model, rows_counted}
use Rattle.world_laws.proofs.laws.answers_of_a_world.Goals as goal

pub returns-clause-model : goal.returns-clause-model
returns-clause-model c = model

pub returns-clause-count : goal.returns-clause-count
returns-clause-count c = λ n rows some few once are. rows_counted n some few rows once are
