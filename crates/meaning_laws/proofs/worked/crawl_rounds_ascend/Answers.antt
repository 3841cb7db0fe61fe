use Rattle.meaning_laws.proofs.StaffCrawl.{directory_first_is_no_round, smith_twice_is_no_round}
use Rattle.meaning_laws.proofs.worked.crawl_rounds_ascend.Goals as goal

pub returns : goal.returns
returns c = record {
  turned = directory_first_is_no_round;
  twice = smith_twice_is_no_round;
}
