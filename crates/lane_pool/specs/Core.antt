-- The core as plain data, and the lists of events that it takes.
use Rattle.std.specs.Prelude.{◌≡◌, ℕ, ◌+◌, ◌<◌, List, [], ◌∷◌, ◌++◌, map, length, replicate, slice_set, slice_index_or, Option, Some, None}
use Rattle.lane_pool.specs.declared.draws.Event.{Event}
use Rattle.lane_pool.specs.declared.draws.Event.TheVariants.{Draw, Done}
use Rattle.lane_pool.specs.Numbers.{times, EachOnce}

-- what a lane drew, and what of that is done
pub record Lane : Type 0 where
  pub drawn : List ℕ
  pub done : List ℕ

abbrev pub idle : Lane
idle = record { drawn = []; done = [] }

pub record Core : Type 0 where
  pub counter : ℕ
  pub room : ℕ
  pub lanes : List Lane

abbrev pub lane_at : List Lane → ℕ → Lane
lane_at lanes i = slice_index_or lanes i idle

abbrev pub with_drawn : Lane → ℕ → Lane
with_drawn l k = record { drawn = l.drawn ++ k ∷ []; done = l.done }

abbrev pub with_done : Lane → ℕ → Lane
with_done l k = record { drawn = l.drawn; done = l.done ++ k ∷ [] }

-- a new core
abbrev pub fresh : ℕ → ℕ → Core
fresh lanes items = record { counter = 0; room = items + lanes; lanes = replicate lanes idle }

abbrev pub after : Core → Event → Core
after c (Draw lane) = record { counter = c.counter + 1; room = c.room; lanes = slice_set c.lanes lane (with_drawn (lane_at c.lanes lane) c.counter) }
after c (Done lane k) = record { counter = c.counter; room = c.room; lanes = slice_set c.lanes lane (with_done (lane_at c.lanes lane) k) }

-- the lane is there, and a number that is done was drawn by this lane and was not done
abbrev pub MayCome : Core → Event → Type 0
MayCome c (Draw lane) = lane < length c.lanes
MayCome c (Done lane k) = (lane < length c.lanes) × (0 < times k (lane_at c.lanes lane).drawn) × (times k (lane_at c.lanes lane).done ≡ 0)

-- there is room for one more number, at a draw
abbrev pub HasRoom : Core → Event → Type 0
HasRoom c (Draw lane) = c.counter < c.room
HasRoom c (Done lane k) = Unit {0}

-- what a step answers: the number that was drawn
abbrev pub answer : Core → Event → Option ℕ
answer c (Draw lane) = Some c.counter
answer c (Done lane k) = None

abbrev pub after_all : Core → List Event → Core
after_all c [] = c
after_all c (e ∷ es) = after_all (after c e) es

-- each event may come at its place
abbrev pub IsSchedule : Core → List Event → Type 0
IsSchedule c [] = Unit {0}
IsSchedule c (e ∷ es) = MayCome c e × IsSchedule (after c e) es

abbrev pub drawn_lists : Core → List (List ℕ)
drawn_lists c = map (λ l. l.drawn) c.lanes

-- the lanes' drawn numbers are disjoint, and together they are exactly the numbers below the counter
abbrev pub IsExact : Core → Type 0
IsExact c = EachOnce (drawn_lists c) c.counter

-- the promise over every schedule from a new core
abbrev pub EveryScheduleIsExact : ℕ → Type 0
EveryScheduleIsExact lanes = (items : ℕ) (events : List Event) → IsSchedule (fresh lanes items) events → IsExact (after_all (fresh lanes items) events)
