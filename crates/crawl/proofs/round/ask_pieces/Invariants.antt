use Rattle.std.proofs.Common.{◌≡◌, ◌+◌, ◌-◌, ◌<◌, ◌++◌, List, length, map, nat_eq}
use Rattle.source_trait.specs.declared.work.Ask.{Ask}
use Rattle.middleware.specs.LaneRounds.{NoneStopped}
use Rattle.crawl_rounds.specs.Lent.{lent_class}
use Rattle.crawl.specs.Asking.{round_asks}
use Rattle.crawl.specs.Knowing.{marked_of}
use Rattle.crawl.specs.Pieces.{left_of, PiecesAsked}
use Rattle.crawl.proofs.round.ask_pieces.Given as goal

-- the requests so far were asked, and the others are left
abbrev pub invariant-loop-cursor : goal.invariant-loop-cursor
invariant-loop-cursor g l = (done : List Ask)
    × (done ++ left_of l.schema (nat_eq l.fn.progress.rounds 0) l.all l.fn.progress.known.fresh.items (map lent_class l.classes) l.cursor
    ≡ round_asks l.schema (nat_eq l.fn.progress.rounds 0) (marked_of l.fn.progress.known) (map lent_class l.classes))
    × PiecesAsked g.S.Source.seen l.schema done l.bad l.fn.progress l.progress l.fn.lanes l.lanes
    × (0 < length done → NoneStopped l.lanes)

abbrev pub decreases-loop-cursor : goal.decreases-loop-cursor
decreases-loop-cursor g l = (length l.classes - l.cursor.class)
    + length (left_of l.schema (nat_eq l.fn.progress.rounds 0) l.all l.fn.progress.known.fresh.items (map lent_class l.classes) l.cursor)
