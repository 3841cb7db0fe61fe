use Rattle.std.proofs.Common.{◌≡◌, map}
use Rattle.std.proofs.lemmas.Result.{IfOk-weaker, IfErr-weaker}
use Rattle.source_trait.specs.declared.work.Asked.TheVariants as asked
use Rattle.middleware.proofs.LaneSkips.{skips_behind}
use Rattle.middleware.proofs.LaneRounds.{asks_each, asks_some, asks_none, are_answers, answers_picked, none_stopped, round_breaks, at_refusal, on_success}
use Rattle.middleware.proofs.lane_round.ask_round.Goals as goal

pub returns-in_err-answers-clause-refused : goal.returns-in_err-answers-clause-refused
returns-in_err-answers-clause-refused g c =
    at_refusal c.from_residual.result (λ schema kinds. asks_none g.S.Source.seen schema c.args.asks.now c.args.lanes.now
    c.ask_lanes.new.lanes c.in_err-answers.ensures.refused)

pub rows_of-requires-clause-skips : goal.rows_of-requires-clause-skips
rows_of-requires-clause-skips g c =
    skips_behind g.S.Source.seen c.args.asks.now c.in_ok-answers.answers.items c.args.lanes.now c.ask_lanes.new.lanes c.in_ok-answers.ensures.asked

pub returns-clause-asks : goal.returns-clause-asks
returns-clause-asks g c =
    IfOk-weaker c.rows_of.result (λ rows. map asked.Rows rows ≡ c.in_ok-answers.answers.items) _
    (λ rows are. λ schema kinds. asks_each g.S.Source.seen schema c.args.asks.now rows c.in_ok-answers.answers.items c.args.lanes.now
    c.ask_lanes.new.lanes are c.in_ok-answers.ensures.asked kinds)
    c.rows_of.ensures.rows

pub returns-clause-answers : goal.returns-clause-answers
returns-clause-answers g c =
    IfOk-weaker c.rows_of.result (λ rows. map asked.Rows rows ≡ c.in_ok-answers.answers.items) _
    (λ rows are. are_answers g.S.Source.seen c.args.asks.now rows c.in_ok-answers.answers.items c.args.lanes.now
    c.ask_lanes.new.lanes are c.in_ok-answers.ensures.asked)
    c.rows_of.ensures.rows

pub returns-clause-picks : goal.returns-clause-picks
returns-clause-picks g c =
    IfOk-weaker c.rows_of.result (λ rows. map asked.Rows rows ≡ c.in_ok-answers.answers.items) _
    (λ rows are. λ facts holds. answers_picked g.S.Source.seen c.args.lanes.now facts holds c.args.asks.now rows
    (are_answers g.S.Source.seen c.args.asks.now rows c.in_ok-answers.answers.items c.args.lanes.now c.ask_lanes.new.lanes are
    c.in_ok-answers.ensures.asked))
    c.rows_of.ensures.rows

pub returns-clause-going : goal.returns-clause-going
returns-clause-going g c =
    on_success c.rows_of.result (λ rows. map asked.Rows rows ≡ c.in_ok-answers.answers.items)
    (λ rows are. none_stopped g.S.Source.seen c.args.asks.now rows c.in_ok-answers.answers.items c.args.lanes.now
    c.ask_lanes.new.lanes are c.in_ok-answers.ensures.asked)
    c.rows_of.ensures.rows

pub returns-clause-refused : goal.returns-clause-refused
returns-clause-refused g c =
    at_refusal c.rows_of.result (λ schema kinds. asks_some g.S.Source.seen schema c.args.asks.now c.in_ok-answers.answers.items
    c.args.lanes.now c.ask_lanes.new.lanes c.in_ok-answers.ensures.asked kinds)

pub returns-clause-cause : goal.returns-clause-cause
returns-clause-cause g c =
    IfErr-weaker c.rows_of.result _ _
    (λ why first. λ schema kinds. round_breaks g.S.Source.seen schema c.args.asks.now c.in_ok-answers.answers.items c.args.lanes.now
    c.ask_lanes.new.lanes why kinds c.in_ok-answers.ensures.asked first)
    c.rows_of.ensures.first
