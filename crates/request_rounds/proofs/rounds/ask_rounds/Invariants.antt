use Rattle.std.proofs.Common.{◌≤◌}
use Rattle.request_rounds.specs.Rounds.{Went}
use Rattle.request_rounds.proofs.rounds.ask_rounds.Given as goal

-- so many rounds were asked whole
abbrev pub invariant-loop : goal.invariant-loop
invariant-loop g l = record {
  within : l.made ≤ l.cap;
  went : Went (goal.TURN-post g l.turn) (goal.ASK-post g l.ask) (goal.TAKE-post g l.take) l.cap l.counter
      (record { progress = l.fn.start; made = 0 }) l.fn.lanes (record { progress = l.progress; made = l.made }) l.lanes;
}
