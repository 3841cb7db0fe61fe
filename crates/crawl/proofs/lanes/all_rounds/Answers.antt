use Rattle.std.proofs.Common.{List, map, subst, arith}
use Rattle.std.proofs.lemmas.Result.{err_from_is_err_and}
use Rattle.meaning.specs.Values.{Value}
use Rattle.crawl_rounds.specs.Lent.{lent_class}
use Rattle.crawl_rounds.specs.Log.{requests_of, answers_of}
use Rattle.crawl.specs.Progress.{BeginsWith}
use Rattle.crawl.proofs.CrawledLanes.{attached_later}
use Rattle.crawl.proofs.Reaching.{reached_none, reached_more, reached_stop, halts_unbegun}
use Rattle.crawl.proofs.lanes.all_rounds.Goals as goal

pub returns-in-Err-clause-stops : goal.returns-in-Err-clause-stops
returns-in-Err-clause-stops g c = halts_unbegun g.S.Source.seen c.args.schema.now c.args.cap c.args.lanes.now

pub loop-init : goal.loop-init
loop-init g c =
    let begin = subst (λ (l : List Value). BeginsWith l c.in-Ok.progress) c.as_slice.ensures c.in-Ok.ensures in
    record { round = begin.rounds; reached = reached_none g.S.Source.seen c.args.schema.now c.args.cap c.in-Ok.progress begin c.args.lanes.now }

pub next_round-requires-clause-attached : goal.next_round-requires-clause-attached
next_round-requires-clause-attached g c κs within =
    let h = c.loop.invariant.reached in
    attached_later c.args.schema.now g.S.Source.seen (requests_of (answers_of h.log)) c.args.lanes.now c.loop.lanes h.asks c.requires.attached

pub returns-in_err-more-clause-stops : goal.returns-in_err-more-clause-stops
returns-in_err-more-clause-stops g c =
    let told = err_from_is_err_and c.from_residual.result c.from_residual.ensures.1 in
    rw (told.1, told.2) (reached_stop g.S.Source.seen c.args.schema.now (map lent_class c.args.classes.now) c.requires.classes c.args.cap c.loop.progress c.args.lanes.now c.loop.lanes c.loop.invariant.reached
    c.in_err-more.field-0.0 c.next_round.new.lanes c.in_err-more.ensures.stops)

pub loop-preserved : goal.loop-preserved
loop-preserved g c =
    let h = c.loop.invariant.reached in
    let goes = c.in_ok-more.ensures.goes c.if-not-more.false in
    let rounds = goes.takes.rounds in
    let so_far = c.loop.invariant.round in
    record {
      round = omega (arith, rounds, so_far);
      reached = reached_more g.S.Source.seen c.args.schema.now (map lent_class c.args.classes.now) c.requires.classes c.args.cap c.loop.progress c.args.lanes.now c.loop.lanes h
          c.next_round.new.lanes goes.round c.next_round.new.progress goes.integers goes.takes
          (attached_later c.args.schema.now g.S.Source.seen (requests_of (answers_of h.log)) c.args.lanes.now c.loop.lanes h.asks c.requires.attached);
    }
