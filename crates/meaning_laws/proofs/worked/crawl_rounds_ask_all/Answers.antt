use Rattle.meaning_laws.proofs.StaffCrawl.{numbers_are_no_round, asked_again_is_no_round}
use Rattle.meaning_laws.proofs.worked.crawl_rounds_ask_all.Goals as goal

pub returns : goal.returns
returns c = record {
  numbers = numbers_are_no_round;
  again = asked_again_is_no_round;
}
