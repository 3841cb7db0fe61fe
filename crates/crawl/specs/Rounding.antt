-- One round of a crawl: what it asks and takes, or why it stops.
use Rattle.std.specs.Prelude.{◌≡◌, ◌+◌, ◌-◌, ◌^◌, ◌<◌, ◌≤◌, ℕ, min, List, [], ◌∷◌, Contains, length, nat_eq}
use Rattle.std.specs.BTreeSet.{IsOrdered}
use Rattle.std.specs.List.Sorted.{IsStrictlySortedBy}
use Rattle.std.specs.Ordering.{nat_cmp}
use Rattle.std.specs.Cmp.Lexicographic.{slice_cmp}
use Rattle.meaning.specs.declared.types.Request.{Request}
use Rattle.meaning.specs.Values.{Value}
use Rattle.access_schema.specs.declared.schema.Schema.{Schema}
use Rattle.access_schema.specs.Meaning.{meaning_of}
use Rattle.source_trait.specs.Asking.{RowList, Seen}
use Rattle.source_trait.specs.declared.lanes.Lane.{Lane}
use Rattle.source_trait.specs.declared.work.Ask.{Ask}
use Rattle.middleware.specs.LaneBranches.{FailsOnLane}
use Rattle.middleware.specs.LaneRounds.{requests_in, HaveTheirKinds, AsksEach, AsksSome, AreAnswers, NoneStopped}
use Rattle.middleware.specs.declared.fault.RunFault.{RunFault}
use Rattle.middleware.specs.declared.fault.RunFault.TheVariants as fault
use Rattle.crawl_rounds.specs.Rounds.{Class, round_requests}
use Rattle.crawl.specs.declared.known.KnownValues.{KnownValues}
use Rattle.crawl.specs.declared.progress.Progress.{Progress}
use Rattle.crawl.specs.Knowing.{marked_of}
use Rattle.crawl.specs.Numbers.{BringIntegers, BringFirstBad}
use Rattle.crawl.specs.Progress.{answered_by, TakesRound}

-- the new values are known ones, each once and in ascending order
pub record FreshWithin (known : KnownValues) : Type 0 where
  pub within : (v : Value) → Contains known.fresh.items v → Contains known.all.keys v
  pub ascend : IsStrictlySortedBy (slice_cmp nat_cmp) known.fresh.items

-- the known values ascend, as they do in each ordered set
abbrev pub AreOrdered : KnownValues → Type 0
AreOrdered known = IsOrdered (slice_cmp nat_cmp) known.all

-- the requests of the next round
abbrev pub next_requests : List Class → Progress → List Request
next_requests classes progress = round_requests (nat_eq progress.rounds 0) (marked_of progress.known) classes

-- There is no further round.
pub record IsLast (classes : List Class) (progress : Progress) : Type 0 where
  pub ordered : AreOrdered progress.known
  pub none : next_requests classes progress ≡ []

module _ {S : Type 0} (seen : S → Seen) (schema : Schema) (classes : List Class) (cap : ℕ) where
  -- The next round was asked whole, for whose requests there was room, and answered.
  pub record RoundAsked (old : Progress) (before after : List (Lane S)) : Type 0 where
    pub ordered : AreOrdered old.known
    pub asks : List Ask
    pub are : requests_in asks ≡ next_requests classes old
    pub kinds : HaveTheirKinds schema asks
    pub some : 0 < length asks
    pub fits : old.made + length asks ≤ cap
    pub asked : AsksEach seen schema (requests_in asks) before after
    pub going : NoneStopped after
    pub answers : List RowList
    pub answered : AreAnswers seen before asks answers

  -- The next round went through: its rows have integers at integer columns, and they were taken.
  pub record RoundGoes (old new : Progress) (before after : List (Lane S)) : Type 0 where
    pub round : RoundAsked old before after
    pub integers : BringIntegers (meaning_of schema) (answered_by round.asks round.answers)
    pub takes : TakesRound (answered_by round.asks round.answers) old new

  -- The next round has bad numbers among its rows, of which this is the least.
  pub record RoundBad (old : Progress) (before after : List (Lane S)) (rel column : ℕ) : Type 0 where
    pub round : RoundAsked old before after
    pub bad : BringFirstBad (meaning_of schema) (answered_by round.asks round.answers) rel column

  -- Why the next round stopped.
  abbrev pub RoundCause : Progress → List Request → List (Lane S) → List (Lane S) → RunFault → Type 0
  RoundCause old now before after fault.NoMemory = Unit {0}
  RoundCause old now before after (fault.CallFailed branch step) = (branch ≡ 0) × (step ≡ old.rounds) × (old.made + length now ≤ cap)
      × ((request : Request) × Contains now request × FailsOnLane seen schema request.rel (request ∷ []) before after)
  RoundCause old now before after (fault.OverCalls made wanted its) = (its ≡ cap) × (made ≡ old.made) × (wanted ≡ min (length now) (2 ^ 32 - 1))
      × (cap < made + wanted) × (after ≡ before)
  RoundCause old now before after (fault.BadNumber rel column) = RoundBad old before after rel column
  RoundCause old now before after why = ⊥

  -- The next round stopped: each of its requests was asked at most once.
  pub record RoundStops (why : RunFault) (old : Progress) (before after : List (Lane S)) : Type 0 where
    pub ordered : AreOrdered old.known
    pub asked : AsksSome seen schema (next_requests classes old) before after
    pub cause : RoundCause old (next_requests classes old) before after why
