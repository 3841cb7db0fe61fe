use Rattle.run_laws.proofs.Deciding.{decided}
use Rattle.run_laws.proofs.worlds.worlds_are_decided.Goals as goal

pub returns : goal.returns
returns c = λ n schema given is of. decided n schema is given of
