use Rattle.run_laws.proofs.Ends.{only_memory}
use Rattle.run_laws.proofs.worlds.worlds_are_read.Goals as goal

pub returns : goal.returns
returns c = only_memory
