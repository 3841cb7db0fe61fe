-- The requests of a round in pieces: what is left of them, and what asking some of them brings.
use Rattle.std.specs.Prelude.{◌≡◌, ◌⊎◌, ◌≤◌, ℕ, zero, suc, Bool, false, if◌then◌else◌, List, [], ◌∷◌, ◌++◌, Contains, Option, length, map, flat_map, drop, nat_eq}
use Rattle.meaning.specs.declared.types.Request.{Request}
use Rattle.meaning.specs.Values.{Value}
use Rattle.access_schema.specs.declared.schema.Schema.{Schema}
use Rattle.access_schema.specs.Meaning.{meaning_of}
use Rattle.bad_numbers.specs.declared.found.BadNumber.{BadNumber}
use Rattle.bad_numbers.specs.Found.{FindsAmong}
use Rattle.source_trait.specs.Asking.{RowList, Seen}
use Rattle.source_trait.specs.declared.lanes.Lane.{Lane}
use Rattle.source_trait.specs.declared.work.Ask.{Ask}
use Rattle.middleware.specs.PlanSources.{line_for}
use Rattle.middleware.specs.LaneBranches.{FailsOnLane}
use Rattle.middleware.specs.LaneRounds.{requests_in, AsksEach, AsksSome, AreAnswers}
use Rattle.middleware.specs.declared.fault.RunFault.{RunFault}
use Rattle.middleware.specs.declared.fault.RunFault.TheVariants as fault
use Rattle.crawl_rounds.specs.Rows.{Marked, MarkedRow, rows_of}
use Rattle.crawl_rounds.specs.Rounds.{Class, request_of}
use Rattle.crawl_rounds.specs.Log.{IsAmong}
use Rattle.crawl.specs.declared.cursor.Cursor.{Cursor}
use Rattle.crawl.specs.declared.known.KnownValues.{KnownValues}
use Rattle.crawl.specs.declared.progress.Progress.{Progress}
use Rattle.crawl.specs.Asking.{kind_of, ask_to}
use Rattle.crawl.specs.Knowing.{marked_of}
use Rattle.crawl.specs.Progress.{Gains, StandsInAnswers, answered_by}

-- ---- the requests, block by block

-- with which values a row goes on at the last input: with all where it is new already, and else with the new ones
abbrev pub ends_of : List Marked → List Value → Bool → List Value
ends_of all fresh mark = if mark then map (λ v. v.0) all else fresh

-- the requests of this kind and class whose rows begin so: all but their last value
abbrev pub block_with : List ℕ → Class → List Marked → List Value → MarkedRow → List Ask
block_with kind class all fresh row =
    map (λ v. record { kind = kind; request = request_of class (row.0 ++ v ∷ []) }) (ends_of all fresh row.1)

-- those of a class with so many inputs, by the beginnings of its rows
abbrev pub blocks_with : Schema → Bool → List Marked → List Value → Class → ℕ → List (List Ask)
blocks_with schema first all fresh class zero = (if first then ask_to schema class [] ∷ [] else []) ∷ []
blocks_with schema first all fresh class (suc n) =
    map (block_with (kind_of (line_for class.0 schema.sources)) class all fresh) (rows_of first all n)

abbrev pub class_blocks : Schema → Bool → List Marked → List Value → Class → List (List Ask)
class_blocks schema first all fresh class = blocks_with schema first all fresh class (length class.1)

-- These are all known values, or there is no class for which more than the new ones is looked at.
abbrev pub AreEnough : Bool → KnownValues → List Class → List Marked → Type 0
AreEnough first known classes all = (all ≡ marked_of known)
    ⊎ ((first ≡ false) × ((class : Class) → Contains classes class → length class.1 ≤ 1))

-- ---- what is left of them

-- what blocks have together
abbrev pub joined : {X : Type 0} → List (List X) → List X
joined blocks = flat_map (λ block. block) blocks

-- what is left of blocks, from a value of the block of this number on
abbrev pub left_in : {X : Type 0} → List (List X) → ℕ → ℕ → List X
left_in [] row value = []
left_in (block ∷ blocks) zero value = drop value block ++ joined blocks
left_in (block ∷ blocks) (suc row) value = left_in blocks row value

-- what is left of the blocks of classes
abbrev pub left_from : {X : Type 0} → List (List (List X)) → ℕ → ℕ → ℕ → List X
left_from [] number row value = []
left_from (blocks ∷ classes) zero row value = left_in blocks row value ++ flat_map (λ its. joined its) classes
left_from (blocks ∷ classes) (suc number) row value = left_from classes number row value

-- what is left of the requests of a round
abbrev pub left_of : Schema → Bool → List Marked → List Value → List Class → Cursor → List Ask
left_of schema first all fresh classes cursor =
    left_from (map (class_blocks schema first all fresh) classes) cursor.class cursor.row cursor.value

-- those of the next round after what a crawl knows
abbrev pub left_now : Schema → List Marked → Progress → List Class → Cursor → List Ask
left_now schema all progress classes cursor =
    left_of schema (nat_eq progress.rounds 0) all progress.known.fresh.items classes cursor

-- the blocks of a class whose rows begin with so many values
abbrev pub blocks_of : List ℕ → Class → Bool → List Marked → List Value → ℕ → List (List Ask)
blocks_of kind class first all fresh count = map (block_with kind class all fresh) (rows_of first all count)

-- nothing is left where it is through
abbrev pub unless : {X : Type 0} → Bool → List X → List X
unless through left = if through then [] else left

-- ---- what asking some of them brings

module _ {S : Type 0} (seen : S → Seen) (schema : Schema) where
  -- These requests were asked and answered, what came was taken, and this is the first bad number in it.
  pub record PiecesAsked (asks : List Ask) (bad : Option BadNumber) (old new : Progress) (before after : List (Lane S)) : Type 0 where
    pub asked : AsksEach seen schema (requests_in asks) before after
    pub answers : List RowList
    pub answered : AreAnswers seen before asks answers
    pub finds : FindsAmong (meaning_of schema) (IsAmong (answered_by asks answers)) bad
    pub gains : Gains (StandsInAnswers (answered_by asks answers)) (IsAmong (answered_by asks answers)) old new

  -- why requests were not all asked, or their answers not taken
  abbrev pub PieceCause : List Request → ℕ → List (Lane S) → List (Lane S) → RunFault → Type 0
  PieceCause requests rounds before after fault.NoMemory = Unit {0}
  PieceCause requests rounds before after (fault.CallFailed branch step) = (branch ≡ 0) × (step ≡ rounds)
      × ((request : Request) × Contains requests request × FailsOnLane seen schema request.rel (request ∷ []) before after)
  PieceCause requests rounds before after why = ⊥

  -- It stopped at these requests, each of which was asked at most once.
  pub record PiecesStop (requests : List Request) (why : RunFault) (rounds : ℕ) (before after : List (Lane S)) : Type 0 where
    pub asked : AsksSome seen schema requests before after
    pub cause : PieceCause requests rounds before after why
