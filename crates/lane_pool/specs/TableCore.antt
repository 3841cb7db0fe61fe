-- The word and the views as a core.
use Rattle.std.specs.Prelude.{◌≡◌, ℕ, zero, suc, ◌+◌, List, [], ◌∷◌, map, length, slice_set}
use mathlib.Core.Option.{some}
use lib.ListN.{get_elem?}
use Rattle.lane_pool.specs.declared.draws.Event.TheVariants.{Draw}
use Rattle.lane_pool.specs.declared.seats.View.{View}
use Rattle.lane_pool.specs.Core.{Core, Lane, after, drawn_lists}
use Rattle.lane_pool.specs.Seats.{view, drawn_first, all_lists}

abbrev pub lane_of_list : List ℕ → Lane
lane_of_list l = record { drawn = l; done = [] }

-- the word and all lists, as a core with a lane for each list
abbrev pub core_of_table : ℕ → ℕ → List View → Core
core_of_table word room views = record { counter = word; room = room; lanes = map lane_of_list (all_lists views) }

-- where the first list of a seat stands among all lists
abbrev pub lane_of_seat : List View → ℕ → ℕ
lane_of_seat [] id = 0
lane_of_seat (v ∷ vs) zero = 0
lane_of_seat (v ∷ vs) (suc id) = length v.lists + lane_of_seat vs id

-- The lists after a number was drawn from the word are those of the core after a Draw by the lane of that seat
abbrev pub DrawsAreEvents : Type 0
DrawsAreEvents = (views : List View) (id word room : ℕ) (l : List ℕ) (ls : List (List ℕ)) (parts : ℕ) → get_elem? views id ≡ some (view (l ∷ ls) parts)
    → all_lists (slice_set views id (view (drawn_first word (l ∷ ls)) parts)) ≡ drawn_lists (after (core_of_table word room views) (Draw (lane_of_seat views id)))
