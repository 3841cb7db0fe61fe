use Rattle.std.proofs.Common.{◌≡◌, take}
use Rattle.crawl_rounds.specs.Log.{IsAmong}
use Rattle.crawl.specs.Progress.{Gains, StandsInAnswers, answered_by}
use Rattle.crawl.proofs.taking.take_answers.Given as goal

-- the answers to the requests so far were taken
abbrev pub invariant-loop-ask : goal.invariant-loop-ask
invariant-loop-ask l = record {
  number : l.number ≡ l.ask-index;
  gains : Gains (StandsInAnswers (answered_by (take l.ask-index l.asks) (take l.ask-index l.answers))) (IsAmong (answered_by (take l.ask-index l.asks) (take l.ask-index l.answers))) l.fn.progress l.progress;
}
