-- The ways of a crawl whose facts are asked, by where it stopped.
use Rattle.std.proofs.Common.{refl}
use Rattle.command_io.specs.Executing.Delivers.{no_rows}
use Rattle.command_io.proofs.Delivering.{reported}
use Rattle.crawl_command.proofs.Reached.{delivered}
use Rattle.crawl_command.proofs.reach.deliver_answers.Goals as goal

pub write_answers-requires-clause-instance : goal.write_answers-requires-clause-instance
write_answers-requires-clause-instance g c = c.in-Ok.ensures.crawls.fits

pub returns-in-Ok-clause-delivers : goal.returns-in-Ok-clause-delivers
returns-in-Ok-clause-delivers g c =
    delivered g.S.Source.seen c.args.schema.now c.args.statement.now c.args.calls _ _ _ _ _ c.write_answers.result
    (reported _ _ _ _ _ c.in-Ok.part c.in-Ok.ensures.crawls c.write_answers.result c.write_answers.ensures.delivers)

pub returns-in-Ok-clause-lanes : goal.returns-in-Ok-clause-lanes
returns-in-Ok-clause-lanes g c = c.in-Ok.ensures.crawls.stay

pub returns-in-Err-clause-delivers : goal.returns-in-Err-clause-delivers
returns-in-Err-clause-delivers g c = no_rows c.stop_of_crawl.result (c.in-Err.fault, c.in-Err.ensures.crawls, c.stop_of_crawl.ensures) refl

pub returns-in-Err-clause-lanes : goal.returns-in-Err-clause-lanes
returns-in-Err-clause-lanes g c = c.in-Err.ensures.crawls.stay
