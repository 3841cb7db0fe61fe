use Rattle.crawl_rounds.proofs.RowOrder.{rows_ascend}
use Rattle.crawl_rounds.proofs.laws.rows_ascend.Goals as goal

pub returns : goal.returns
returns c = rows_ascend
