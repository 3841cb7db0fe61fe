-- Why a text of the world is not read.
use Rattle.run_command.specs.World.WorldStop.{no_memory}
use Rattle.run_command.proofs.world.read_world.Goals as goal

pub returns-in-Err-clause-stops : goal.returns-in-Err-clause-stops
returns-in-Err-clause-stops c = no_memory
