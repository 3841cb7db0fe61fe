-- The fields of `Draws` as a core, and what is true of them.
use Rattle.std.specs.Prelude.{◌≡◌, ℕ, ◌≤◌, List, map, All, vec_capacity, vec_len, length}
use Rattle.lane_pool.specs.declared.draws.LaneNumbers.{LaneNumbers}
use Rattle.lane_pool.specs.Numbers.{times}
use Rattle.lane_pool.specs.Core.{Core, Lane, IsExact}

abbrev pub lane_of : LaneNumbers → Lane
lane_of l = record { drawn = l.drawn.items; done = l.done.items }

abbrev pub core_of : ℕ → ℕ → List LaneNumbers → Core
core_of counter room lanes = record { counter = counter; room = room; lanes = map lane_of lanes }

-- each lane has room, and no number is done that was not drawn, nor done twice
abbrev pub IsRoomy : ℕ → LaneNumbers → Type 0
IsRoomy room l =
    (room ≤ vec_capacity l.drawn) × (room ≤ vec_capacity l.done) × (vec_len l.drawn ≡ length l.drawn.items) × (vec_len l.done ≡ length l.done.items)
    × ((k : ℕ) → times k l.done.items ≤ times k l.drawn.items)

abbrev pub IsKept : ℕ → ℕ → List LaneNumbers → Type 0
IsKept counter room lanes = (counter ≤ room) × IsExact (core_of counter room lanes) × All (IsRoomy room) lanes
