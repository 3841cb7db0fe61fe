-- What the lanes of `fan_out` did, before their answers are gathered.
use Rattle.std.specs.Prelude.{◌≡◌, ℕ, ◌+◌, ◌<◌, ◌≤◌, ◌⊎◌, List, [], ◌∷◌, ◌++◌, map, length, Some, slice_get, All, Vec, vec_len, vec_capacity}
use Rattle.atomic_table.specs.Table.{Me}
use Rattle.lane_pool.specs.declared.seats.View.{View}
use Rattle.lane_pool.specs.Numbers.{EachOnce, AllAscend}
use Rattle.lane_pool.specs.Seats.{view}
use Rattle.lane_pool.specs.Work.{AllReady}

-- an empty sheet, with room for one number more than there are items
abbrev pub IsBlank : {A Z : Type 0} → ℕ → Vec (ℕ × A) Z → Type 0
IsBlank items sheet = (sheet.items ≡ []) × (vec_len sheet ≡ 0) × (items < vec_capacity sheet)

-- a seat that has drawn nothing, with a part for each lane
abbrev pub IsNew : ℕ → Me (Unit {0}) View → Type 0
IsNew lanes me = (me.0.lists ≡ [] ∷ []) × (me.1 ≡ []) × (lanes ≤ me.0.parts)

-- some workers, ready for all items, with a new seat for all of them and a blank sheet for each
abbrev pub MayBegin : {W I A Z : Type 0} → (W → I → Type 0) → List I → Me (Unit {0}) View → List (Vec (ℕ × A) Z) → List W → Type 0
MayBegin ready items me sheets ws =
    (0 < length ws) × IsNew (length ws) me × AllReady ready items ws × (length items ≤ 1000000) × (length sheets ≡ length ws) × All (IsBlank (length items)) sheets

module _ {W I A : Type 0} (did : W → I → A → W → Type 0) (items : List I) where
  -- the worker w becomes u by the steps on a sheet: each number that was worked, with its answer
  abbrev pub Steps : List (ℕ × A) → W → W → Type 0
  Steps [] w u = w ≡ u
  Steps (d ∷ ds) w u = (item : I) × (next : W) × (slice_get items d.0 ≡ Some item) × did w item d.1 next × Steps ds next u

  -- The lane drew these numbers. It worked all of them but the last, which names no item, or all of them, which are one more than there are items.
  abbrev pub Stops : List ℕ → List (ℕ × A) → Type 0
  Stops own sheet = ((k : ℕ) × (length items ≤ k) × (own ≡ map (λ d. d.0) sheet ++ k ∷ []) × (length sheet ≤ length items)) ⊎ ((own ≡ map (λ d. d.0) sheet) × (length sheet ≡ length items + 1))

  abbrev pub LaneDid : List ℕ → List (ℕ × A) → W → W → Type 0
  LaneDid own sheet w u = Stops own sheet × Steps sheet w u

  -- lane by lane: the numbers that it drew, its sheet, and its worker before and after
  abbrev pub LanesDid : List (List ℕ) → List (List (ℕ × A)) → List W → List W → Type 0
  LanesDid [] [] [] [] = Unit {0}
  LanesDid (o ∷ os) (s ∷ ss) (w ∷ ws) (u ∷ us) = LaneDid o s w u × LanesDid os ss ws us
  LanesDid _ _ _ _ = ⊥

  -- the seat's view has a list for each lane
  abbrev pub Ran : ℕ → List (List (ℕ × A)) → List W → List W → Me (Unit {0}) View → Type 0
  Ran parts sheets ws us me = (owns : List (List ℕ)) × (me ≡ (view owns parts, [])) × LanesDid owns sheets ws us

  -- the lanes have stopped, and what they drew is exactly the numbers below some word
  pub record LanesEnded (sheets : List (List (ℕ × A))) (ws us : List W) : Type 0 where
    pub drawn : List (List ℕ)
    pub word : ℕ
    pub ascend : AllAscend drawn
    pub once : EachOnce drawn word
    pub did_all : LanesDid drawn sheets ws us
