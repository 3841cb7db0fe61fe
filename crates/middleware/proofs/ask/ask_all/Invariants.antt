use Rattle.std.proofs.Common.{◌≡◌, take}
use Rattle.std.specs.Prelude.{Ok}
use Rattle.source_trait.specs.Lanes.{StepsOn}
use Rattle.middleware.specs.Rounds.{AnswersAll}
use Rattle.middleware.proofs.ask.ask_all.Given as goal

abbrev pub invariant-loop-number : goal.invariant-loop-number
invariant-loop-number g l = record {
  steps : StepsOn l.fn.lane.kinds.items l.lane.kinds.items l.kind (λ s t. AnswersAll l.rel l.positions (take l.number l.requests) (Ok l.answers) (g.S.Source.seen s) (g.S.Source.seen t));
  stopped : l.lane.stopped ≡ l.fn.lane.stopped;
}
