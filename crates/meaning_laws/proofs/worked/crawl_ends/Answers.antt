use Rattle.meaning_laws.proofs.StaffCrawl.{stopped_is_no_crawl, nothing_is_no_round}
use Rattle.meaning_laws.proofs.worked.crawl_ends.Goals as goal

pub returns : goal.returns
returns c = record {
  stopped = stopped_is_no_crawl;
  nothing = nothing_is_no_round;
}
