use Rattle.exposure_search.proofs.Served.{never_at}
use Rattle.exposure_search.proofs.makers.can_match.Goals as goal

pub returns-then-not-can_meet : goal.returns-then-not-can_meet
returns-then-not-can_meet c e =
    never_at c.args.given.now c.args.next c.args.width c.args.made.now c.args.asked.now c.loop-place.place c.index-made-place.result c.index-asked-place.result c.loop-place-test.true c.index-made-place.is c.index-asked-place.is
    (c.can_meet.ensures c.if-not-can_meet.true)
