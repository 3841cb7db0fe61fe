-- Which relations the lanes need, and what attaching them on the lanes does.
use Rattle.std.specs.Prelude.{◌≡◌, ◌≢◌, ◌⊎◌, ◌↔◌, ◌<◌, ℕ, zero, suc, List, [], ◌∷◌, Contains, None, Some, IsSome, Result, Ok, Err, slice_get}
use Rattle.std.specs.List.Sorted.{IsStrictlyIncreasing}
use Rattle.access_schema.specs.declared.schema.Schema.{Schema}
use Rattle.access_schema.specs.declared.schema.SourceLine.{SourceLine}
use Rattle.source_trait.specs.Asking.{Seen}
use Rattle.source_trait.specs.Lanes.{source_of}
use Rattle.source_trait.specs.declared.source.AttachFault.{AttachFault}
use Rattle.source_trait.specs.declared.source.AttachFault.TheVariants.{NoMemory as NoRoom}
use Rattle.source_trait.specs.declared.lanes.Lane.{Lane}
use Rattle.middleware.specs.PlanSources.{line_for}
use Rattle.middleware.specs.Attaching.{AttachesInOrder}
use Rattle.middleware.specs.Sources.{AttachBreaks}
use Rattle.middleware.specs.declared.fault.RunFault.{RunFault}
use Rattle.middleware.specs.declared.fault.RunFault.TheVariants as fault

-- ---- which lane needs which relation: `IsNeeded` of the place of the lane and the relation

-- some lane needs it; where no lane is given, the first one would
abbrev pub IsWanted : (ℕ → ℕ → Type 0) → ℕ → Type 0
IsWanted IsNeeded rel = (place : ℕ) × IsNeeded place rel

-- the list for the lane at a place: one for the first lane, and one for each further one
abbrev pub listed : List ℕ → List ℕ → ℕ → List ℕ
listed first others zero = first
listed first others (suc place) = others

-- the lane at a place needs the relations of its list
abbrev pub needed : List ℕ → List ℕ → ℕ → ℕ → Type 0
needed first others place rel = Contains (listed first others place) rel

-- these are the relations that the lane at the place needs, ascending
pub record AreNeeded (IsNeeded : ℕ → ℕ → Type 0) (place : ℕ) (rels : List ℕ) : Type 0 where
  pub ascends : IsStrictlyIncreasing rels
  pub exactly : (rel : ℕ) → Contains rels rel ↔ IsNeeded place rel

-- a lane that needs the relation lacks the kind, or there is no lane
abbrev pub LacksKind : {S : Type 0} → (ℕ → ℕ → Type 0) → List (Lane S) → ℕ → List ℕ → Type 0
LacksKind {S} IsNeeded lanes rel kind = (lanes ≡ [])
    ⊎ ((place : ℕ) × (lane : Lane S) × (slice_get lanes place ≡ Some lane) × IsNeeded place rel × (source_of lane.kinds.items kind ≡ None))

module _ (schema : Schema) (IsNeeded : ℕ → ℕ → Type 0) where
  -- the first relation that is wanted and has no source line
  pub record IsFirstLineless (rel : ℕ) : Type 0 where
    pub wanted : IsWanted IsNeeded rel
    pub lacks : line_for rel schema.sources ≡ None
    pub below : (other : ℕ) → IsWanted IsNeeded other → other < rel → IsSome (line_for other schema.sources)

  -- each wanted relation has a source line, and this is the first of them whose kind is lacked
  pub record IsFirstKindless {S : Type 0} (lanes : List (Lane S)) (rel : ℕ) : Type 0 where
    pub lines : (other : ℕ) → IsWanted IsNeeded other → IsSome (line_for other schema.sources)
    pub line : SourceLine
    pub wanted : IsWanted IsNeeded rel
    pub line_is : line_for rel schema.sources ≡ Some line
    pub lacks : LacksKind IsNeeded lanes rel line.kind
    pub below : (other : ℕ) (at : SourceLine) → IsWanted IsNeeded other → line_for other schema.sources ≡ Some at → other < rel
        → LacksKind IsNeeded lanes other at.kind → ⊥

  -- each wanted relation has a source line, and no lane that needs it lacks the kind of that
  pub record HaveAll {S : Type 0} (lanes : List (Lane S)) : Type 0 where
    pub lines : (rel : ℕ) → IsWanted IsNeeded rel → IsSome (line_for rel schema.sources)
    pub kinds : (rel : ℕ) (line : SourceLine) → IsWanted IsNeeded rel → line_for rel schema.sources ≡ Some line
        → LacksKind IsNeeded lanes rel line.kind → ⊥

-- ---- what attaches on the lanes do

module _ {S : Type 0} (seen : S → Seen) (schema : Schema) where
  -- the relations were attached on the lane, one after another; where there are none, it stays
  pub record AttachesLane (rels : List ℕ) (old new : Lane S) : Type 0 where
    pub order : AttachesInOrder seen schema rels old.kinds.items new.kinds.items
    pub stopped : new.stopped ≡ old.stopped
    pub idle : rels ≡ [] → new ≡ old

  -- the lane at each place attached the relations of the list for the place
  abbrev pub LanesAttach : (ℕ → List ℕ) → List (Lane S) → List (Lane S) → Type 0
  LanesAttach rels [] [] = Unit {0}
  LanesAttach rels (w ∷ ws) (u ∷ us) = AttachesLane (rels zero) w u × LanesAttach (λ place. rels (suc place)) ws us
  LanesAttach rels _ _ = ⊥

  -- The lanes before one attached all of theirs, on that lane an attach was refused after those before it, and the lanes behind it stay.
  pub record LanesBreak (rels : ℕ → List ℕ) (rel : ℕ) (why : AttachFault) (old new : List (Lane S)) : Type 0 where
    pub place : ℕ
    pub before : Lane S
    pub after : Lane S
    pub was : slice_get old place ≡ Some before
    pub now : slice_get new place ≡ Some after
    pub earlier : (k : ℕ) (lane its : Lane S) → k < place → slice_get old k ≡ Some lane → slice_get new k ≡ Some its
        → AttachesLane (rels k) lane its
    pub refused : AttachBreaks seen schema (rels place) rel why before.kinds.items after.kinds.items
    pub stopped : after.stopped ≡ before.stopped
    pub later : (k : ℕ) → place < k → slice_get new k ≡ slice_get old k

  module _ (IsNeeded : ℕ → ℕ → Type 0) where
    -- Each lane attached the relations that it needs once, in ascending order, and nothing else was done.
    pub record EachAttached (old new : List (Lane S)) : Type 0 where
      pub rels : ℕ → List ℕ
      pub are : (place : ℕ) → AreNeeded IsNeeded place (rels place)
      pub order : LanesAttach rels old new

    -- The lanes before one attached the relations that they need, in ascending order; on that lane this one was refused after those
    -- before it, and the lanes behind it stay.
    pub record AttachBreaksAt (rel : ℕ) (why : AttachFault) (old new : List (Lane S)) : Type 0 where
      pub rels : ℕ → List ℕ
      pub are : (place : ℕ) → AreNeeded IsNeeded place (rels place)
      pub breaks : LanesBreak rels rel why old new

    -- What attaching the relations that the lanes need gave, and what it did: a source line or a kind that is missing is reported before
    -- anything is attached.
    pub data AttachesNeeded (old new : List (Lane S)) : Result (Unit {0}) RunFault → Type 0 where
      done : EachAttached old new → HaveAll schema IsNeeded old → AttachesNeeded old new (Ok tt)
      no_source : (rel : ℕ) → IsFirstLineless schema IsNeeded rel → new ≡ old → AttachesNeeded old new (Err (fault.NoSource rel))
      unknown_kind : (rel : ℕ) → IsFirstKindless schema IsNeeded old rel → new ≡ old → AttachesNeeded old new (Err (fault.UnknownKind rel))
      refused : (rel : ℕ) (why : AttachFault) → AttachBreaksAt rel why old new → HaveAll schema IsNeeded old → why ≢ NoRoom
          → AttachesNeeded old new (Err (fault.Attach rel why))
      no_memory : (new ≡ old) ⊎ ((rel : ℕ) × AttachBreaksAt rel NoRoom old new) → AttachesNeeded old new (Err fault.NoMemory)
