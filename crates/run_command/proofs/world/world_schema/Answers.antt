-- Why the text of the schema is not read.
use Rattle.run_command.specs.World.WorldStop.{no_memory, no_schema}
use Rattle.run_command.proofs.world.world_schema.Goals as goal

pub returns-in-NoMemory-clause-stops : goal.returns-in-NoMemory-clause-stops
returns-in-NoMemory-clause-stops c = no_memory

pub returns-in_default : goal.returns-in_default
returns-in_default c = record {
  schema = tt;
  stops = no_schema c.in-Err.fault c.in_default.not-NoMemory (rw (c.as_slice.ensures, c.requires.is) at c.in-Err.ensures.fault);
}
