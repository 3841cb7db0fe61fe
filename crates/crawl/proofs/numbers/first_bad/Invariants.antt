use Rattle.std.proofs.Common.{◌≡◌, take}
use Rattle.access_schema.specs.Meaning.{meaning_of}
use Rattle.bad_numbers.specs.Found.{FindsAmong}
use Rattle.crawl_rounds.specs.Log.{IsAmong}
use Rattle.crawl.specs.Progress.{answered_by}
use Rattle.crawl.proofs.numbers.first_bad.Given as goal

-- what is found of the answers to the requests so far
abbrev pub invariant-loop-ask : goal.invariant-loop-ask
invariant-loop-ask l = record {
  number : l.number ≡ l.ask-index;
  finds : FindsAmong (meaning_of l.schema) (IsAmong (answered_by (take l.ask-index l.asks) (take l.ask-index l.answers))) l.found;
}
