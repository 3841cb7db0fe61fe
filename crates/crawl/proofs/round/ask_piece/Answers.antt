use Rattle.middleware.specs.LaneRounds.{requests_in}
use Rattle.middleware.proofs.LaneShares.{each_some}
use Rattle.crawl.proofs.Piecing.{piece_failed}
use Rattle.crawl.proofs.round.ask_piece.Goals as goal

pub returns-in-Ok-clause-stops : goal.returns-in-Ok-clause-stops
returns-in-Ok-clause-stops g c = record {
  asked = each_some g.S.Source.seen c.args.schema.now (requests_in c.args.asks.now) c.args.lanes.now c.ask_round.new.lanes (c.in-Ok.ensures.asks c.args.schema.now c.requires.kinds);
  cause = tt;
}

pub returns-clause-stops : goal.returns-clause-stops
returns-clause-stops g c =
    let cause = rw c.in-Err-CallFailed.field-0-is at c.in-Err-CallFailed.ensures.cause in
    piece_failed g.S.Source.seen c.args.schema.now c.args.asks.now c.in-Err-CallFailed.field-0-0 c.args.progress.now.rounds c.args.lanes.now c.ask_round.new.lanes
    (c.in-Err-CallFailed.ensures.refused c.args.schema.now c.requires.kinds) (cause c.args.schema.now c.requires.kinds).1
