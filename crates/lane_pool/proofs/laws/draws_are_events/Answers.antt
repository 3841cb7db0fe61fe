use Rattle.lane_pool.proofs.DrawEvents.{draw_is_event}
use Rattle.lane_pool.proofs.laws.draws_are_events.Goals as goal

pub returns : goal.returns
returns c = draw_is_event
