-- What a search keeps: the paths that it made, those that wait, those that were looked at, and what it knows of each set.
use Rattle.std.specs.Prelude.{◌≡◌, ◌⊎◌, ◌↔◌, ℕ, ◌+◌, ◌<◌, ◌≤◌, List, [], ◌∷◌, ◌++◌, Contains, Bool, map, length, slice_index_or, Some}
use Rattle.least_search.specs.declared.space.Move.{Move}
use Rattle.least_search.specs.declared.node.Node.{Node}
use Rattle.least_search.specs.declared.waiting.Waiter.{Waiter}
use Rattle.least_search.specs.declared.table.Seen.TheVariants.{Looked, Waits}
use Rattle.least_search.specs.declared.table.SetTable.{SetTable}
use Rattle.least_search.specs.declared.frontier.Frontier.{Frontier}
use Rattle.least_search.specs.declared.frontier.Taken.{Taken}
use Rattle.least_search.specs.declared.cuts.Cut.{Cut}
use Rattle.least_search.specs.Walks.{with_fact}
use Rattle.least_search.specs.Cuts.{holding, rest, sum_of}
use Rattle.least_search.specs.Ways.{Way, way_along, way_with}
use Rattle.least_search.specs.Packing.{packed}
use Rattle.least_search.specs.Table.{seen_at}

-- The sets of ways.
abbrev pub sets_of : List Way → List (List Bool)
sets_of ways = map (λ (way : Way). way.set) ways

-- The way of a node.
abbrev pub way_of : Node → Way
way_of node = record { path = node.path.items; set = node.set.items; cost = node.cost }

-- The way along the path with that number, from the empty set of so many facts.
abbrev pub way_at : ℕ → List (List Move) → ℕ → Way
way_at facts paths number = way_along facts (slice_index_or paths number [])

-- The ways along the paths with these numbers.
abbrev pub ways_at : ℕ → List (List Move) → List ℕ → List Way
ways_at facts paths numbers = map (way_at facts paths) numbers

-- The ways that were looked at, and those that wait.
abbrev pub looked_in : Frontier → List Way
looked_in frontier = ways_at frontier.facts frontier.paths frontier.looked.items

abbrev pub waiting_in : Frontier → List Way
waiting_in frontier = ways_at frontier.facts frontier.paths (map (λ (waiter : Waiter). waiter.number) frontier.waiting)

-- A way that waits leads to the set at no more than that cost.
abbrev pub Waiting : List Way → List Bool → ℕ → Type 0
Waiting ways set cost = (way : Way) × Contains ways way × (way.set ≡ set) × (way.cost ≤ cost)

-- A waiter has what is still to be paid at the set of its way, and the sum of the two, which is below the bound.
pub record IsWaiterOf (cuts : List Cut) (bound : ℕ) (way : Way) (waiter : Waiter) : Type 0 where
  pub sum : waiter.sum ≡ sum_of cuts way
  pub due : waiter.rest ≡ rest cuts way.set
  pub low : waiter.sum < bound

-- Each waiter has the number of a path; and the table knows which sets were looked at, and of others at most costs at which they wait.
pub record AreKept (cuts : List Cut) (bound facts : ℕ) (paths : List (List Move)) (waiting : List Waiter) (looked : List ℕ)
    (table : SetTable) : Type 0 where
  pub waiters : (waiter : Waiter) → Contains waiting waiter →
      (waiter.number < length paths) × IsWaiterOf cuts bound (way_at facts paths waiter.number) waiter
  pub numbers : (number : ℕ) → Contains looked number → number < length paths
  pub looked_are : (set : List Bool) →
      (seen_at table (packed set) ≡ Some Looked) ↔ Contains (sets_of (ways_at facts paths looked)) set
  pub waits : (set : List Bool) (cost : ℕ) → seen_at table (packed set) ≡ Some (Waits cost) →
      Waiting (ways_at facts paths (map (λ (waiter : Waiter). waiter.number) waiting)) set cost

abbrev pub IsFrontier : Frontier → Type 0
IsFrontier frontier =
    AreKept frontier.cuts.now frontier.bound frontier.facts frontier.paths frontier.waiting frontier.looked.items frontier.table

-- All that waits was looked at.
abbrev pub AreLooked : List Way → List Way → Type 0
AreLooked looked waiting = (other : Way) → Contains waiting other → Contains (sets_of looked) other.set

-- A way has the least sum, below the bound, of those that wait and were not looked at; nothing else leaves the queue that was not
-- looked at.
pub record IsNext (cuts : List Cut) (bound : ℕ) (looked before after : List Way) (way : Way) : Type 0 where
  pub new : Contains (sets_of looked) way.set → ⊥
  pub among : Contains before way
  pub low : sum_of cuts way < bound
  pub least : (other : Way) → Contains after other → sum_of cuts way ≤ sum_of cuts other
  pub stay : (other : Way) → Contains before other →
      (way ≡ other) ⊎ (Contains after other ⊎ Contains (sets_of looked) other.set)
  pub only : (other : Way) → Contains after other → Contains before other

-- Both are over as many facts, and have the same cuts and the same bound.
pub record IsAlike (before after : Frontier) : Type 0 where
  pub facts : after.facts ≡ before.facts
  pub cuts : after.cuts.now ≡ before.cuts.now
  pub bound : after.bound ≡ before.bound

-- What was taken is the way of the path with its number, with the key of its set, and which cuts hold it.
pub record IsTakenFrom (frontier : Frontier) (taken : Taken) : Type 0 where
  pub within : taken.number < length frontier.paths
  pub at : way_at frontier.facts frontier.paths taken.number ≡ way_of taken.node
  pub key : taken.key ≡ packed taken.node.set.items
  pub held : taken.held.items ≡ holding frontier.cuts.now taken.node.set.items

-- The way with the least sum to a set that was not looked at is taken, and looked at.
pub record IsTaken (before after : Frontier) (taken : Taken) : Type 0 where
  pub sound : IsFrontier after
  pub alike : IsAlike before after
  pub next : IsNext before.cuts.now before.bound (looked_in before) (waiting_in before) (waiting_in after) (way_of taken.node)
  pub looked : looked_in after ≡ looked_in before ++ way_of taken.node ∷ []
  pub from : IsTakenFrom after taken

-- The set was looked at, or a way that waits leads to it at no more than that cost.
abbrev pub IsKnown : List Way → List Way → List Bool → ℕ → Type 0
IsKnown looked waiting set cost = Contains (sets_of looked) set ⊎ Waiting waiting set cost

-- What waited waits, and perhaps the way that was taken with one more move, whose set is known at its cost if its sum is below the bound.
pub record IsAdded (before after : Frontier) (taken : Taken) (move : Move) : Type 0 where
  pub alike : IsAlike before after
  pub looked : looked_in after ≡ looked_in before
  pub from : IsTakenFrom after taken
  pub kept : (other : Way) → Contains (waiting_in before) other → Contains (waiting_in after) other
  pub only : (other : Way) → Contains (waiting_in after) other →
      Contains (waiting_in before) other ⊎ (way_with (way_of taken.node) move ≡ other)
  pub known : sum_of before.cuts.now (way_with (way_of taken.node) move) < before.bound →
      IsKnown (looked_in after) (waiting_in after) (with_fact taken.node.set.items move) (taken.node.cost + move.cost)

-- What waited waits, with ways by some of these moves; and the set that a move leads to with a sum below the bound is known at its cost.
pub record ArePushed (cuts : List Cut) (bound : ℕ) (way : Way) (moves : List Move) (looked before after : List Way) : Type 0 where
  pub kept : (other : Way) → Contains before other → Contains after other
  pub only : (other : Way) → Contains after other →
      Contains before other ⊎ ((move : Move) × Contains moves move × (way_with way move ≡ other))
  pub reached : (move : Move) → Contains moves move → sum_of cuts (way_with way move) < bound →
      IsKnown looked after (with_fact way.set move) (way.cost + move.cost)
