use Rattle.lists.proofs.Members.{contains_got}
use Rattle.lists.proofs.Places.{got_indexed}
use Rattle.connected_match.proofs.walk.kept_rows.Goals as goal

pub kept_row-requires : goal.kept_row-requires
kept_row-requires c = c.requires c.one-item.result (contains_got c.args.found.now c.loop-one.one-index c.one-item.result (got_indexed c.args.found.now c.loop-one.one-index c.one-item.result c.loop-one-test.true c.one-item.is))
