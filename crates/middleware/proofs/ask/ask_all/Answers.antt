use Rattle.std.proofs.Common.{◌≡◌, ◌<◌, ℕ, List, [], length, get_or, refl, ◌∙◌, sym, arith}
use Rattle.std.proofs.lemmas.List.{get_or_default}
use Rattle.std.proofs.lemmas.Result.{err_from_is_err_and}
use Rattle.source_trait.specs.Asking.{RowList}
use Rattle.middleware.proofs.Answering.{lane_none, lane_ready, lane_done, lane_more, lane_stop, lane_breaks, lane_full}
use Rattle.middleware.proofs.ask.ask_all.Goals as goal

-- the row at a place, whatever is taken where there is none
at_place : (rows : RowList) (k : ℕ) (row : List (List ℕ)) → k < length rows → row ≡ get_or rows k [] → row ≡ get_or rows k row
at_place rows k row within at = at ∙ get_or_default rows k [] row within

pub loop-number-init : goal.loop-number-init
loop-number-init g c = record {
  steps = lane_none g.S.Source.seen c.args.rel c.args.positions.now c.args.requests.now c.args.kind.now c.args.lane.now.kinds.items c.new-answers.result c.new-answers.ensures c.requires.there;
  stopped = refl;
}

pub ask_row-requires-clause-ready : goal.ask_row-requires-clause-ready
ask_row-requires-clause-ready g c κs within =
    let at = at_place c.args.requests.now c.loop-number.number c.at.result (omega arith) c.at.ensures in
    lane_ready g.S.Source.seen c.args.rel c.args.positions.now c.args.requests.now c.args.kind.now c.args.lane.now.kinds.items c.loop-number.lane.kinds.items c.loop-number.number c.loop-number.answers
    c.loop-number.invariant.steps c.at.result (c.requires.ready c.at.result (c.loop-number.number, omega arith, sym at))

pub returns-in_err-answer-clause-steps : goal.returns-in_err-answer-clause-steps
returns-in_err-answer-clause-steps g c =
    let at = at_place c.args.requests.now c.loop-number.number c.at.result (omega arith) c.at.ensures in
    let told = err_from_is_err_and c.from_residual.result c.from_residual.ensures.1 in
    rw (told.1, told.2) (lane_stop g.S.Source.seen c.args.rel c.args.positions.now c.args.requests.now c.args.kind.now c.args.lane.now.kinds.items c.loop-number.lane.kinds.items c.loop-number.number c.loop-number.answers
    c.loop-number.invariant.steps c.ask_row.new.lane.kinds.items c.at.result (omega arith) at c.in_err-answer.field-0.0 c.in_err-answer.ensures.steps)

pub returns-in_err-answer-clause-breaks : goal.returns-in_err-answer-clause-breaks
returns-in_err-answer-clause-breaks g c =
    let at = at_place c.args.requests.now c.loop-number.number c.at.result (omega arith) c.at.ensures in
    let told = err_from_is_err_and c.from_residual.result c.from_residual.ensures.1 in
    rw (told.1, told.2) (lane_breaks g.S.Source.seen c.args.rel c.args.positions.now c.args.requests.now c.args.kind.now c.args.lane.now.kinds.items c.loop-number.lane.kinds.items c.loop-number.number c.loop-number.answers
    c.loop-number.invariant.steps c.ask_row.new.lane.kinds.items c.at.result (omega arith) at c.in_err-answer.field-0.0 c.in_err-answer.ensures.steps)

pub returns-in-Err-clause-steps : goal.returns-in-Err-clause-steps
returns-in-Err-clause-steps g c =
    let at = at_place c.args.requests.now c.loop-number.number c.at.result (omega arith) c.at.ensures in
    lane_full g.S.Source.seen c.args.rel c.args.positions.now c.args.requests.now c.args.kind.now c.args.lane.now.kinds.items c.loop-number.lane.kinds.items c.loop-number.number c.loop-number.answers
    c.loop-number.invariant.steps c.ask_row.new.lane.kinds.items c.at.result (omega arith) at c.in_ok-answer.answer c.in_ok-answer.ensures.steps

pub loop-number-preserved : goal.loop-number-preserved
loop-number-preserved g c =
    let at = at_place c.args.requests.now c.loop-number.number c.at.result (omega arith) c.at.ensures in
    record {
      steps = lane_more g.S.Source.seen c.args.rel c.args.positions.now c.args.requests.now c.args.kind.now c.args.lane.now.kinds.items c.loop-number.lane.kinds.items c.loop-number.number c.loop-number.answers
          c.loop-number.invariant.steps c.ask_row.new.lane.kinds.items c.at.result (omega arith) at c.in_ok-answer.answer c.in-Ok.more c.in-Ok.ensures c.in_ok-answer.ensures.steps;
      stopped = c.ask_row.ensures.stopped ∙ c.loop-number.invariant.stopped;
    }

pub returns-clause-steps : goal.returns-clause-steps
returns-clause-steps g c =
    lane_done g.S.Source.seen c.args.rel c.args.positions.now c.args.requests.now c.args.kind.now c.args.lane.now.kinds.items c.loop-number.lane.kinds.items c.loop-number.number c.loop-number.answers
    c.loop-number.invariant.steps c.loop-number.answers refl (omega arith)
