-- What each seat knows, and the rule over the word and all views.
use Rattle.std.specs.Prelude.{◌≡◌, ℕ, ◌+◌, ◌-◌, ◌/◌, ◌^◌, ◌≤◌, ◌⊎◌, List, [], ◌∷◌, ◌++◌, length}
use mathlib.Core.Option.{some}
use lib.ListN.{get_elem?}
use Rattle.atomic_table.specs.Table.{State, Me}
use Rattle.lane_pool.specs.declared.seats.View.{View}
use Rattle.lane_pool.specs.Numbers.{total, EachOnce, AllAscend}

abbrev pub view : List (List ℕ) → ℕ → View
view lists parts = record { lists = lists; parts = parts }

-- a seat that was joined into another
abbrev pub spent : View
spent = view [] 0

-- the first list is what the seat's own lane drew
abbrev pub drawn_first : ℕ → List (List ℕ) → List (List ℕ)
drawn_first k [] = []
drawn_first k (l ∷ ls) = (l ++ k ∷ []) ∷ ls

-- the lists of all views
abbrev pub all_lists : List View → List (List ℕ)
all_lists [] = []
all_lists (v ∷ vs) = v.lists ++ all_lists vs

-- each list ascends strictly, and together they are exactly the numbers below the word
abbrev pub AreExact : ℕ → List View → Type 0
AreExact word views = ((id : ℕ) (v : View) → get_elem? views id ≡ some v → AllAscend v.lists) × EachOnce (all_lists views) word

-- the word may have wrapped
abbrev pub AreLong : List View → Type 0
AreLong views = 2 ^ 64 ≤ total length (all_lists views)

-- The table has one word. The parts of all views are 8, a view with no part has no list, and the lists are exact, unless the word may have wrapped.
abbrev pub Follows : List ℕ → List View → Type 0
Follows words views =
    (word : ℕ) × (words ≡ word ∷ [])
    × (total (λ v. v.parts) views ≡ 8)
    × ((id : ℕ) (v : View) → get_elem? views id ≡ some v → v.parts ≡ 0 → v.lists ≡ [])
    × (AreExact word views ⊎ AreLong views)

abbrev pub RuleHolds : State (Unit {0}) View → Type 0
RuleHolds s = Follows s.words s.views

-- the number that was found is appended to the first list of the seat's view
abbrev pub DrawsNumber : Me (Unit {0}) View → ℕ → Me (Unit {0}) View → Type 0
DrawsNumber me k after = after ≡ (view (drawn_first k me.0.lists) me.0.parts, me.1)

-- The old view keeps its lists and the smaller half of its parts. The new view has one empty list and the other parts
abbrev pub kept_half : View → View
kept_half v = view v.lists (v.parts / 2)

abbrev pub new_half : View → View
new_half v = view ([] ∷ []) (v.parts - v.parts / 2)

-- the lists of the one after those of the other, with all their parts
abbrev pub joined : View → View → View
joined v w = view (v.lists ++ w.lists) (v.parts + w.parts)
