use Rattle.meaning_laws.proofs.StaffCrawl.{office_rounds_are, office_crawl}
use Rattle.meaning_laws.proofs.worked.office_crawl.Goals as goal

pub returns : goal.returns
returns c = record {
  rounds = office_rounds_are;
  crawl = office_crawl;
}
