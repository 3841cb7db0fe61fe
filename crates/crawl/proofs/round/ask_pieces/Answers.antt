use Rattle.std.proofs.Common.{◌≡◌, ◌∙◌, ◌++◌, [], List, length, map, nat_eq, sym, ap, subst, arith}
use Rattle.bad_numbers.specs.declared.found.BadNumber.{BadNumber}
use Rattle.std.specs.Prelude.{Option}
use Rattle.std.proofs.lemmas.List.{length-map}
use Rattle.std.proofs.lemmas.Result.{err_from_is_err_and}
use Rattle.meaning.specs.declared.types.Request.{Request}
use Rattle.source_trait.specs.declared.work.Ask.{Ask}
use Rattle.middleware.specs.LaneRounds.{requests_in}
use Rattle.middleware.specs.declared.fault.RunFault.TheVariants as fault
use Rattle.crawl_rounds.specs.Lent.{lent_class}
use Rattle.crawl.specs.Knowing.{marked_of}
use Rattle.crawl.specs.Pieces.{left_of, PiecesAsked, PiecesStop}
use Rattle.crawl.specs.Rounding.{next_requests}
use Rattle.crawl.proofs.CrawledLanes.{attached_later}
use Rattle.crawl.proofs.Piecing.{pieces_none, pieces_more, stops_behind, stops_unmade}
use Rattle.crawl.proofs.Readying.{lines_there, ready_piece}
use Rattle.crawl.proofs.RoundPieces.{whole_long, begun, through, unmade, parts_more, requests_more, piece_within, piece_few, piece_known, piece_kinds}
use Rattle.crawl.proofs.round.ask_pieces.Goals as goal

pub loop-cursor-init : goal.loop-cursor-init
loop-cursor-init g c = (
  [],
  begun c.args.schema.now (map lent_class c.args.classes.now) c.args.all.now c.args.progress.now c.requires.fresh c.requires.all c.at_class-cursor.result c.at_class-cursor.ensures,
  pieces_none g.S.Source.seen c.args.schema.now c.args.progress.now c.args.lanes.now,
  (λ some. absurd (omega (arith, some))),
)

pub next_piece-requires : goal.next_piece-requires
next_piece-requires g c = record {
  lines = lines_there g.S.Source.seen c.args.schema.now (map lent_class c.args.classes.now) c.requires.classes c.args.lanes.now c.requires.attached c.requires.lanes.0;
}

pub returns-in-Err-clause-stops : goal.returns-in-Err-clause-stops
returns-in-Err-clause-stops g c =
    let (done, parts, pieces, going) = c.loop-cursor.invariant in
    let classes = map lent_class c.args.classes.now in
    let start = c.args.progress.now in
    let left = left_of c.args.schema.now (nat_eq start.rounds 0) c.args.all.now start.known.fresh.items classes c.loop-cursor.cursor in
    subst (λ (r : List Request). PiecesStop g.S.Source.seen c.args.schema.now r fault.NoMemory start.rounds c.args.lanes.now c.loop-cursor.lanes)
    (unmade c.args.schema.now classes c.args.all.now start done c.loop-cursor.progress pieces.gains.known pieces.gains.rounds c.loop-cursor.cursor parts)
    (stops_unmade g.S.Source.seen c.args.schema.now (requests_in done) (requests_in left) start.rounds c.args.lanes.now c.loop-cursor.lanes pieces.asked)

pub ask_piece-requires-clause-sizes : goal.ask_piece-requires-clause-sizes
ask_piece-requires-clause-sizes g c κs within =
    let (done, parts, pieces, going) = c.loop-cursor.invariant in
    let few = piece_few c.args.schema.now (map lent_class c.args.classes.now) c.args.all.now c.args.progress.now done c.loop-cursor.progress pieces.gains.known pieces.gains.rounds c.loop-cursor.cursor parts
    c.as_slice.result.now c.next_piece.new.asks.list.items c.as_slice.ensures.value c.next_piece.new.cursor c.in-Ok.ensures.parts 1_000_000 c.requires.few in
    let same = c.loop-cursor.auto.lanes in
    let lanes = c.requires.lanes in
    (omega (arith, same, lanes.0), omega (arith, same, lanes.1), few)

pub ask_piece-requires-clause-ready : goal.ask_piece-requires-clause-ready
ask_piece-requires-clause-ready g c κs within =
    let (done, parts, pieces, going) = c.loop-cursor.invariant in
    ready_piece g.S.Source.seen c.args.schema.now (map lent_class c.args.classes.now) c.requires.classes c.loop-cursor.lanes
    (attached_later c.args.schema.now g.S.Source.seen (requests_in done) c.args.lanes.now c.loop-cursor.lanes pieces.asked c.requires.attached)
    (nat_eq c.args.progress.now.rounds 0) (marked_of c.args.progress.now.known) c.as_slice.result.now
    (piece_within c.args.schema.now (map lent_class c.args.classes.now) c.args.all.now c.args.progress.now done c.loop-cursor.progress pieces.gains.known pieces.gains.rounds c.loop-cursor.cursor parts
    c.as_slice.result.now c.next_piece.new.asks.list.items c.as_slice.ensures.value c.next_piece.new.cursor c.in-Ok.ensures.parts)

pub ask_piece-requires-clause-kinds : goal.ask_piece-requires-clause-kinds
ask_piece-requires-clause-kinds g c κs within =
    let (done, parts, pieces, going) = c.loop-cursor.invariant in
    piece_kinds c.args.schema.now (map lent_class c.args.classes.now) c.args.all.now c.args.progress.now done c.loop-cursor.progress pieces.gains.known pieces.gains.rounds c.loop-cursor.cursor parts
    c.as_slice.result.now c.next_piece.new.asks.list.items c.as_slice.ensures.value c.next_piece.new.cursor c.in-Ok.ensures.parts
    (lines_there g.S.Source.seen c.args.schema.now (map lent_class c.args.classes.now) c.requires.classes c.args.lanes.now c.requires.attached c.requires.lanes.0)

pub ask_piece-requires-clause-known : goal.ask_piece-requires-clause-known
ask_piece-requires-clause-known g c κs within =
    let (done, parts, pieces, going) = c.loop-cursor.invariant in
    piece_known c.args.schema.now (map lent_class c.args.classes.now) c.args.all.now c.args.progress.now done c.loop-cursor.progress pieces.gains.known pieces.gains.rounds c.loop-cursor.cursor parts
    c.as_slice.result.now c.next_piece.new.asks.list.items c.as_slice.ensures.value c.next_piece.new.cursor c.in-Ok.ensures.parts

pub loop-cursor-preserved : goal.loop-cursor-preserved
loop-cursor-preserved g c =
    let (done, parts, pieces, going) = c.loop-cursor.invariant in
    let piece = c.as_slice.result.now in (
      done ++ piece,
      parts_more c.args.schema.now (map lent_class c.args.classes.now) c.args.all.now c.args.progress.now done c.loop-cursor.progress pieces.gains.known pieces.gains.rounds c.loop-cursor.cursor parts
          c.as_slice.result.now c.next_piece.new.asks.list.items c.as_slice.ensures.value c.next_piece.new.cursor c.in-Ok.ensures.parts,
      subst (λ (b : Option BadNumber). PiecesAsked g.S.Source.seen c.args.schema.now (done ++ piece) b c.args.progress.now c.ask_piece.new.progress c.args.lanes.now c.ask_piece.new.lanes) (sym c.earlier-bad.ensures)
          (pieces_more g.S.Source.seen c.args.schema.now done piece c.loop-cursor.bad c.in_ok-found.found c.args.progress.now c.loop-cursor.progress c.ask_piece.new.progress
          c.args.lanes.now c.loop-cursor.lanes c.ask_piece.new.lanes pieces c.in_ok-found.ensures.asked),
      (λ some. c.in_ok-found.ensures.going),
    )

pub returns-in_err-found-clause-stops : goal.returns-in_err-found-clause-stops
returns-in_err-found-clause-stops g c =
    let (done, parts, pieces, going) = c.loop-cursor.invariant in
    let start = c.args.progress.now in
    let classes = map lent_class c.args.classes.now in
    let left = left_of c.args.schema.now (nat_eq start.rounds 0) c.args.all.now start.known.fresh.items classes c.next_piece.new.cursor in
    let why = c.in_err-found.field-0.0 in
    let told = err_from_is_err_and c.from_residual.result c.from_residual.ensures.1 in
    rw (told.1, told.2) (subst (λ (r : List Request). PiecesStop g.S.Source.seen c.args.schema.now r why start.rounds c.args.lanes.now c.ask_piece.new.lanes)
    (requests_more c.args.schema.now (map lent_class c.args.classes.now) c.args.all.now c.args.progress.now done c.loop-cursor.progress pieces.gains.known pieces.gains.rounds c.loop-cursor.cursor parts
    c.as_slice.result.now c.next_piece.new.asks.list.items c.as_slice.ensures.value c.next_piece.new.cursor c.in-Ok.ensures.parts)
    (stops_behind g.S.Source.seen c.args.schema.now (requests_in done) (requests_in c.as_slice.result.now) (requests_in left) start.rounds c.args.lanes.now c.loop-cursor.lanes c.ask_piece.new.lanes pieces.asked why
    (subst (λ n. PiecesStop g.S.Source.seen c.args.schema.now (requests_in c.as_slice.result.now) why n c.loop-cursor.lanes c.ask_piece.new.lanes) pieces.gains.rounds c.in_err-found.ensures.stops)))

pub returns-clause-asked : goal.returns-clause-asked
returns-clause-asked g c =
    let (done, parts, pieces, going) = c.loop-cursor.invariant in
    let long = length-map c.args.classes.now lent_class in
    let far = c.loop-cursor-test.false in
    subst (λ (l : List Ask). PiecesAsked g.S.Source.seen c.args.schema.now l c.loop-cursor.bad c.args.progress.now c.loop-cursor.progress c.args.lanes.now c.loop-cursor.lanes)
    (through c.args.schema.now (map lent_class c.args.classes.now) c.args.all.now c.args.progress.now done c.loop-cursor.cursor (omega (arith, long, far)) parts) pieces

pub returns-clause-going : goal.returns-clause-going
returns-clause-going g c = λ some.
    let (done, parts, pieces, going) = c.loop-cursor.invariant in
    let long = length-map c.args.classes.now lent_class in
    let far = c.loop-cursor-test.false in
    let all : length done ≡ length (next_requests (map lent_class c.args.classes.now) c.args.progress.now) =
    ap length (through c.args.schema.now (map lent_class c.args.classes.now) c.args.all.now c.args.progress.now done c.loop-cursor.cursor (omega (arith, long, far)) parts)
    ∙ whole_long c.args.schema.now (map lent_class c.args.classes.now) c.args.all.now c.args.progress.now in
    going (omega (arith, all, some))
