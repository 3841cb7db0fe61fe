use Rattle.crawl_rounds.proofs.Logging.{among_received}
use Rattle.crawl_rounds.proofs.laws.answers_are_received.Goals as goal

pub returns : goal.returns
returns c = among_received
