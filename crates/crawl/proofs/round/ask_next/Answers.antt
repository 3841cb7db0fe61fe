use Rattle.std.proofs.Common.{[], None, Option, Some, map, nat_eq, refl, subst, arith}
use Rattle.bad_numbers.specs.declared.found.BadNumber.{BadNumber}
use Rattle.crawl_rounds.specs.Lent.{lent_class}
use Rattle.crawl.specs.declared.progress.Progress.{Progress}
use Rattle.crawl.specs.Asking.{round_asks}
use Rattle.crawl.specs.Knowing.{marked_of}
use Rattle.crawl.specs.Pieces.{PiecesAsked}
use Rattle.crawl.specs.Progress.{answered_by}
use Rattle.crawl.proofs.Gaining.{answered_long}
use Rattle.crawl.proofs.Readying.{lines_there}
use Rattle.crawl.proofs.Rounding.{stops_unasked, stops_asked, stops_bad, goes}
use Rattle.crawl.proofs.RoundPieces.{whole_long}
use Rattle.crawl.proofs.Wanting.{asked_round, kinds_round}
use Rattle.crawl.proofs.round.ask_next.Goals as goal

pub returns-in_default-clause-stops : goal.returns-in_default-clause-stops
returns-in_default-clause-stops g c =
    stops_unasked g.S.Source.seen c.args.schema.now (map lent_class c.args.classes.now) c.args.cap c.args.progress.now c.requires.ordered c.args.lanes.now

pub returns-in-Ok-end_round-clause-goes : goal.returns-in-Ok-end_round-clause-goes
returns-in-Ok-end_round-clause-goes g c =
    let old = c.args.progress.now in
    let classes = map lent_class c.args.classes.now in
    let first = nat_eq old.rounds 0 in
    let asks = round_asks c.args.schema.now first (marked_of old.known) classes in
    let start : Progress = record { known = old.known; found = c.clear.new.self; received = old.received; made = old.made; rounds = old.rounds } in
    let asked : PiecesAsked g.S.Source.seen c.args.schema.now asks None start c.ask_pieces.new.progress c.args.lanes.now c.ask_pieces.new.lanes =
    subst (λ (o : Option BadNumber). PiecesAsked g.S.Source.seen c.args.schema.now asks o start c.ask_pieces.new.progress c.args.lanes.now c.ask_pieces.new.lanes) c.in-Ok-None.field-0-is c.in-Ok-None.ensures.asked in
    let long = whole_long c.args.schema.now classes [] old in
    let wanted = c.requires.wanted in
    let fits = c.requires.fits in
    let its = answered_long asks asked.answers asked.answered.len in
    let takes = c.in-Ok-end_round.ensures (answered_by asks asked.answers) start c.clear.ensures (omega (arith, its, long, wanted.1)) asked.gains in (
      refl,
      goes g.S.Source.seen c.args.schema.now classes c.args.cap old c.requires.ordered asks (asked_round c.args.schema.now first (marked_of old.known) classes) c.args.lanes.now c.ask_pieces.new.lanes
          (kinds_round c.args.schema.now first (marked_of old.known) classes (lines_there g.S.Source.seen c.args.schema.now classes c.requires.classes c.args.lanes.now c.requires.attached c.requires.lanes.0))
          (omega (arith, long, wanted.0, wanted.1)) (omega (arith, long, wanted.1, fits.0)) asked.asked (c.in-Ok-None.ensures.going (omega (arith, wanted.0, wanted.1))) asked.answers asked.answered
          c.end_round.new.progress asked.finds
          (record { all = takes.all; fresh = takes.fresh; ascend = takes.ascend; facts = takes.facts; made = takes.made; rounds = takes.rounds }),
    )

pub returns-in-Ok-None-clause-stops : goal.returns-in-Ok-None-clause-stops
returns-in-Ok-None-clause-stops g c =
    let old = c.args.progress.now in
    let classes = map lent_class c.args.classes.now in
    let first = nat_eq old.rounds 0 in
    let asks = round_asks c.args.schema.now first (marked_of old.known) classes in
    stops_asked g.S.Source.seen c.args.schema.now classes c.args.cap old c.requires.ordered asks (asked_round c.args.schema.now first (marked_of old.known) classes) c.args.lanes.now c.ask_pieces.new.lanes
    c.in-Ok-None.ensures.asked.asked

pub returns-in-Ok-Some-clause-stops : goal.returns-in-Ok-Some-clause-stops
returns-in-Ok-Some-clause-stops g c =
    let old = c.args.progress.now in
    let classes = map lent_class c.args.classes.now in
    let first = nat_eq old.rounds 0 in
    let asks = round_asks c.args.schema.now first (marked_of old.known) classes in
    let start : Progress = record { known = old.known; found = c.clear.new.self; received = old.received; made = old.made; rounds = old.rounds } in
    let bad = c.in-Ok-Some.bad in
    let asked : PiecesAsked g.S.Source.seen c.args.schema.now asks (Some bad) start c.ask_pieces.new.progress c.args.lanes.now c.ask_pieces.new.lanes =
    subst (λ (o : Option BadNumber). PiecesAsked g.S.Source.seen c.args.schema.now asks o start c.ask_pieces.new.progress c.args.lanes.now c.ask_pieces.new.lanes) c.in-Ok-Some.field-0-is c.in-Ok-Some.ensures.asked in
    let long = whole_long c.args.schema.now classes [] old in
    let wanted = c.requires.wanted in
    let fits = c.requires.fits in
    stops_bad g.S.Source.seen c.args.schema.now classes c.args.cap old c.requires.ordered asks (asked_round c.args.schema.now first (marked_of old.known) classes) c.args.lanes.now c.ask_pieces.new.lanes
    (kinds_round c.args.schema.now first (marked_of old.known) classes (lines_there g.S.Source.seen c.args.schema.now classes c.requires.classes c.args.lanes.now c.requires.attached c.requires.lanes.0))
    (omega (arith, long, wanted.0, wanted.1)) (omega (arith, long, wanted.1, fits.0)) asked.asked (c.in-Ok-Some.ensures.going (omega (arith, wanted.0, wanted.1))) asked.answers asked.answered
    bad.rel bad.column asked.finds
