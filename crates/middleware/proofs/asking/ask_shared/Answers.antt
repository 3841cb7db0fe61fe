use Rattle.std.proofs.Common.{◌∙◌}
use Rattle.middleware.proofs.Finding.{line_there}
use Rattle.middleware.proofs.LaneShares.{AsksSome-none}
use Rattle.middleware.proofs.LaneRequests.{ready_lent, each_lent, some_lent, answers_lent, fails_lent, one_lent}
use Rattle.middleware.proofs.asking.ask_shared.Goals as goal

pub line_of-line-requires : goal.line_of-line-requires
line_of-line-requires g c = line_there g.S.Source.seen c.args.schema.now c.args.method.now c.args.lanes.now c.requires.lanes.0 c.requires.askable

pub returns-in-Err : goal.returns-in-Err
returns-in-Err g c =
    record {
      asks = tt;
      answers = tt;
      going = tt;
      refused = AsksSome-none g.S.Source.seen c.args.schema.now _ c.args.lanes.now;
      some = λ e. absurd (cc);
      failed = λ e. absurd (cc);
    }

pub ask_round-requires-clause-ready : goal.ask_round-requires-clause-ready
ask_round-requires-clause-ready g c κs within =
    ready_lent g.S.Source.seen c.args.schema.now c.args.method.now c.line_of-line.result.now
    c.line_of-line.ensures
    c.args.requests.now c.as_slice.result.now (c.as_slice.ensures.value ∙ c.in-Ok.ensures) c.args.lanes.now c.requires.askable c.requires.values

pub returns-in-Ok-ask_round : goal.returns-in-Ok-ask_round
returns-in-Ok-ask_round g c = record {
  asks = each_lent g.S.Source.seen c.args.schema.now c.args.method.now c.line_of-line.result.now
      c.line_of-line.ensures
      c.args.requests.now c.as_slice.result.now (c.as_slice.ensures.value ∙ c.in-Ok.ensures) c.args.lanes.now c.ask_round.new.lanes c.in-Ok-ask_round.ensures.asks;
  answers = answers_lent g.S.Source.seen c.args.schema.now c.args.method.now c.line_of-line.result.now
      c.line_of-line.ensures
      c.args.requests.now c.as_slice.result.now (c.as_slice.ensures.value ∙ c.in-Ok.ensures) c.args.lanes.now c.in-Ok-ask_round.answers c.in-Ok-ask_round.ensures.answers;
  going = c.in-Ok-ask_round.ensures.going;
  refused = tt;
  some = λ e. absurd (cc);
  failed = λ e. absurd (cc);
}

pub returns-in-Err-NoMemory : goal.returns-in-Err-NoMemory
returns-in-Err-NoMemory g c = record {
  asks = tt;
  answers = tt;
  going = tt;
  refused = some_lent g.S.Source.seen c.args.schema.now c.args.method.now c.line_of-line.result.now
      c.line_of-line.ensures
      c.args.requests.now c.as_slice.result.now (c.as_slice.ensures.value ∙ c.in-Ok.ensures) c.args.lanes.now c.ask_round.new.lanes c.in-Err-NoMemory.ensures.refused;
  some = λ e. absurd (cc);
  failed = λ e. absurd (cc);
}

pub returns : goal.returns
returns g c =
    let cause = rw c.in-Err-CallFailed.field-0-is at c.in-Err-CallFailed.ensures.cause in
    record {
      asks = tt;
      answers = tt;
      going = tt;
      refused = some_lent g.S.Source.seen c.args.schema.now c.args.method.now c.line_of-line.result.now
          c.line_of-line.ensures
          c.args.requests.now c.as_slice.result.now (c.as_slice.ensures.value ∙ c.in-Ok.ensures) c.args.lanes.now c.ask_round.new.lanes c.in-Err-CallFailed.ensures.refused;
      some = λ e. one_lent g.S.Source.seen c.args.schema.now c.args.method.now c.line_of-line.result.now
          c.line_of-line.ensures
          c.args.requests.now c.as_slice.result.now (c.as_slice.ensures.value ∙ c.in-Ok.ensures) c.in-Err-CallFailed.field-0-0 c.args.lanes.now c.ask_round.new.lanes cause;
      failed = λ e. fails_lent g.S.Source.seen c.args.schema.now c.args.method.now c.line_of-line.result.now
          c.line_of-line.ensures
          c.args.requests.now c.as_slice.result.now (c.as_slice.ensures.value ∙ c.in-Ok.ensures) c.in-Err-CallFailed.field-0-0 c.args.lanes.now c.ask_round.new.lanes cause;
    }
