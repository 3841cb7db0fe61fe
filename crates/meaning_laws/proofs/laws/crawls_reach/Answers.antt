use Rattle.meaning_laws.proofs.Crawling.{crawls_reach}
use Rattle.meaning_laws.proofs.laws.crawls_reach.Goals as goal

pub returns : goal.returns
returns c = crawls_reach
