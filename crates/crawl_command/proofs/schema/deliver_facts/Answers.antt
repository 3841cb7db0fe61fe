-- The ways of a crawl, by where it stopped.
use Rattle.std.proofs.Common.{refl}
use Rattle.command_io.specs.Executing.Delivers.{no_rows}
use Rattle.command_io.proofs.Delivering.{reported}
use Rattle.crawl_command.proofs.schema.deliver_facts.Goals as goal

pub returns-in-Ok-clause-delivers : goal.returns-in-Ok-clause-delivers
returns-in-Ok-clause-delivers g c =
    reported _ _ _ _ _ c.in-Ok.part c.in-Ok.ensures.crawls c.write_facts-written.result c.write_facts-written.ensures.delivers

pub returns-in-Ok-clause-lanes : goal.returns-in-Ok-clause-lanes
returns-in-Ok-clause-lanes g c = c.in-Ok.ensures.crawls.stay

pub returns-in-Err-clause-delivers : goal.returns-in-Err-clause-delivers
returns-in-Err-clause-delivers g c = no_rows c.stop_of_crawl.result (c.in-Err.fault, c.in-Err.ensures.crawls, c.stop_of_crawl.ensures) refl

pub returns-in-Err-clause-lanes : goal.returns-in-Err-clause-lanes
returns-in-Err-clause-lanes g c = c.in-Err.ensures.crawls.stay
