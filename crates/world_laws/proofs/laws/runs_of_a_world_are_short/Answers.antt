use Rattle.world_laws.proofs.Chases.{runs_short}
use Rattle.world_laws.proofs.laws.runs_of_a_world_are_short.Goals as goal

pub returns : goal.returns
returns c = λ query log end form run. (runs_short query form log end run).0
