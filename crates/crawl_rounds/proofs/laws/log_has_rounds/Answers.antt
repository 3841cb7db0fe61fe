use Rattle.crawl_rounds.proofs.Logging.{log_rounds, next_is_round}
use Rattle.crawl_rounds.proofs.laws.log_has_rounds.Goals as goal

pub returns : goal.returns
returns c = record {
  rounds = log_rounds;
  next = next_is_round;
}
