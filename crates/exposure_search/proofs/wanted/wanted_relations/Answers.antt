use Rattle.exposure_search.specs.Relevance.{IsImageAmong}
use Rattle.exposure_search.proofs.Served.{bodies_more}
use Rattle.exposure_search.proofs.wanted.wanted_relations.Goals as goal

pub returns-clause-served : goal.returns-clause-served
returns-clause-served c = bodies_more c.args.rules.now c.args.next (IsImageAmong c.args.queries.now c.args.head.now) c.in_ok-marks.marks.items c.mark_bodies.new.marks.items c.in_ok-mark_bodies.ensures.stays c.in_ok-marks.ensures
