use Rattle.pdq.proofs.Laning.{second_is}
use Rattle.pdq.proofs.lanes.lane_of.Goals as goal

pub returns : goal.returns
returns g c = rw c.new-2.ensures.kinds (rw c.in_ok-push-2.ensures.items (rw c.in_ok-push.ensures.items (rw c.new-kinds.ensures.items
    (second_is _ _ _ c.in_ok-from_str.ensures c.in_ok-from_str-2.ensures tt c.new.ensures))))
