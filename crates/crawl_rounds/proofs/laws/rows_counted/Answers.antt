use Rattle.crawl_rounds.proofs.RowCounts.{rows_counted}
use Rattle.crawl_rounds.proofs.laws.rows_counted.Goals as goal

pub returns : goal.returns
returns c = rows_counted
