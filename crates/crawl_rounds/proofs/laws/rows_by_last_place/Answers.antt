use Rattle.crawl_rounds.proofs.LastPlace.{rows_by_last_place}
use Rattle.crawl_rounds.proofs.laws.rows_by_last_place.Goals as goal

pub returns : goal.returns
returns c = rows_by_last_place
