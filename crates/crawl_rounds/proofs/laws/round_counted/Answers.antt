use Rattle.crawl_rounds.proofs.RowCounts.{round_counted}
use Rattle.crawl_rounds.proofs.laws.round_counted.Goals as goal

pub returns : goal.returns
returns c = round_counted
