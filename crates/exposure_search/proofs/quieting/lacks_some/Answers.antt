use Rattle.std.proofs.Common.{sym}
use Rattle.exposure_search.proofs.quieting.lacks_some.Goals as goal

pub returns-then-lacks : goal.returns-then-lacks
returns-then-lacks c e = (c.atom-item.result, (c.loop-atom.atom-index, c.loop-atom-test.true, sym c.atom-item.is), c.lacks.ensures c.if-lacks.true)
