-- Why the text of the query is not read.
use Rattle.run_command.specs.World.WorldStop.{no_memory, no_statement}
use Rattle.run_command.proofs.world.world_statement.Goals as goal

pub returns-in-NoMemory-clause-stops : goal.returns-in-NoMemory-clause-stops
returns-in-NoMemory-clause-stops c = no_memory

pub returns-in_default : goal.returns-in_default
returns-in_default c = record {
  statement = tt;
  fits = tt;
  stops = no_statement c.args.schema.now c.in-Err.fault c.requires.schema c.in_default.not-NoMemory (rw (c.as_slice.ensures, c.requires.is) at c.in-Err.ensures.fault);
}
