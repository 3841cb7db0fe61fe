use Rattle.crawl_rounds.proofs.Logging.{log_is_crawl}
use Rattle.crawl_rounds.proofs.laws.log_is_a_crawl.Goals as goal

pub returns : goal.returns
returns c = log_is_crawl
