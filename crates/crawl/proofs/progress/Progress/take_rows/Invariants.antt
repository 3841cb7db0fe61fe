use Rattle.std.proofs.Common.{take}
use Rattle.crawl.specs.Progress.{Gains, StandsIn, IsRowOf}
use Rattle.crawl.proofs.progress.Progress.take_rows.Given as goal

-- the rows so far were taken
abbrev pub invariant-loop-number : goal.invariant-loop-number
invariant-loop-number l = Gains (StandsIn (take l.number l.rows)) (IsRowOf l.request.rel (take l.number l.rows)) l.fn.self l.self
