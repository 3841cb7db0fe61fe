use Rattle.std.proofs.Common.{◌≡◌}
use Rattle.crawl.specs.Reaching.{HasReached}
use Rattle.crawl.proofs.lanes.all_rounds.Given as goal

-- so many rounds were asked
abbrev pub invariant-loop : goal.invariant-loop
invariant-loop g l = record {
  round : l.progress.rounds ≡ l.counter;
  reached : HasReached g.S.Source.seen l.schema l.cap l.progress l.fn.lanes l.lanes;
}
