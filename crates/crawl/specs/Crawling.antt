-- What a crawl of lanes attaches, asks and gives, and why it stops.
use Rattle.std.specs.Prelude.{◌≡◌, ◌↔◌, ◌+◌, ◌-◌, ◌^◌, ◌<◌, ◌≤◌, ℕ, min, List, [], ◌∷◌, ◌++◌, Contains, length, flat_map, Result, Ok, Err, IfOk}
use Rattle.meaning.specs.declared.types.Fact.{Fact}
use Rattle.meaning.specs.declared.types.Method.{Method}
use Rattle.meaning.specs.declared.types.Request.{Request}
use Rattle.meaning.specs.Access.{IsAccessible}
use Rattle.meaning.specs.Crawls.{IsOfMethod, IsReceived, IsCrawlRound, AreCrawlRounds, IsCrawl}
use Rattle.meaning.specs.Instances.{IsInstance}
use Rattle.meaning.specs.Matching.{itself}
use Rattle.meaning.specs.Search.{AreDistinct}
use Rattle.meaning.specs.Sorts.{AreSorted}
use Rattle.access_schema.specs.declared.schema.Schema.{Schema}
use Rattle.access_schema.specs.Meaning.{meaning_of}
use Rattle.source_trait.specs.Asking.{Seen}
use Rattle.source_trait.specs.Lanes.{LanesStay}
use Rattle.source_trait.specs.declared.lanes.Lane.{Lane}
use Rattle.middleware.specs.LaneAsking.{LanesHoldRelation}
use Rattle.middleware.specs.LaneBranches.{FailsOnLane}
use Rattle.middleware.specs.LaneRounds.{AsksEach, AsksSome, NoneStopped}
use Rattle.middleware.specs.Needs.{AttachesNeeded}
use Rattle.bad_numbers.specs.Numbers.{ReceiveFirstBad, ReceiveIntegers}
use Rattle.middleware.specs.declared.fault.RunFault.{RunFault}
use Rattle.middleware.specs.declared.fault.RunFault.TheVariants as fault

-- A relation is reachable where it has a method.
abbrev pub IsReachable : Schema → ℕ → Type 0
IsReachable schema rel = (method : Method) × Contains schema.methods method × (method.rel ≡ rel)

-- For a crawl each lane needs the reachable relations.
abbrev pub needed_to_crawl : Schema → ℕ → ℕ → Type 0
needed_to_crawl schema place rel = IsReachable schema rel

-- The requests of rounds, one round after another.
abbrev pub asked_in : List (List Request) → List Request
asked_in rounds = flat_map (λ round. round) rounds

module _ {S : Type 0} (seen : S → Seen) (schema : Schema) where
  -- Each lane holds the reachable relations, where their source lines say, with just the facts of the instance.
  abbrev pub LanesHoldReachable : List (Lane S) → List Fact → Type 0
  LanesHoldReachable lanes instance = (rel : ℕ) → IsReachable schema rel → LanesHoldRelation seen schema rel lanes instance

  -- Each request is one of a method of the schema.
  abbrev pub AreOfMethods : List Request → Type 0
  AreOfMethods requests = (request : Request) → Contains requests request → IsOfMethod (meaning_of schema) request

  -- Lanes that had attached the reachable relations were crawled: each request of the crawl was asked once, by one of the
  -- lanes, and this part is what was received.
  pub record HasCrawled (cap : ℕ) (part : List Fact) (old new : List (Lane S)) : Type 0 where
    pub requests : List Request
    pub asks : AsksEach seen schema requests old new
    pub of_methods : AreOfMethods requests
    pub within : length requests ≤ cap
    pub going : 0 < length requests → NoneStopped new
    pub means : (instance : List Fact) → LanesHoldReachable old instance
        → IsCrawl (meaning_of schema) schema.constants instance requests
        × ((fact : Fact) → Contains part fact ↔ IsReceived instance requests fact)

  -- A call of a round failed. There was room for the round, and it is numbered by the rounds before it.
  pub record RoundFails (cap branch step : ℕ) (rounds : List (List Request)) (now : List Request) (middle new : List (Lane S)) : Type 0 where
    pub branch_is : branch ≡ 0
    pub step_is : step ≡ length rounds
    pub fits : length (asked_in rounds) + length now ≤ cap
    pub request : Request
    pub of_round : Contains now request
    pub fails : FailsOnLane seen schema request.rel (request ∷ []) middle new

  -- A round was asked whole, which there was room for, and this is the least bad number of what it received.
  pub record NumberFails (cap rel column : ℕ) (rounds : List (List Request)) (now : List Request) (old middle new : List (Lane S)) : Type 0 where
    pub fits : length (asked_in rounds) + length now ≤ cap
    pub asked : AsksEach seen schema now middle new
    pub going : NoneStopped new
    pub bad : (instance : List Fact) → LanesHoldReachable old instance → ReceiveFirstBad (meaning_of schema) instance now rel column

  -- A round would pass the cap, and was not asked.
  pub record CapFills (cap made wanted its : ℕ) (rounds : List (List Request)) (now : List Request) (middle new : List (Lane S)) : Type 0 where
    pub cap_is : its ≡ cap
    pub made_is : made ≡ length (asked_in rounds)
    pub wanted_is : wanted ≡ min (length now) (2 ^ 32 - 1)
    pub within : made ≤ cap
    pub over : cap < made + wanted
    pub unasked : new ≡ middle

  -- Why the rounds of a crawl stopped. Where there was no memory, nothing more is said.
  abbrev pub CrawlCause : ℕ → List (List Request) → List Request → List (Lane S) → List (Lane S) → List (Lane S) → RunFault → Type 0
  CrawlCause cap rounds now old middle new fault.NoMemory = Unit {0}
  CrawlCause cap rounds now old middle new (fault.CallFailed branch step) = RoundFails cap branch step rounds now middle new
  CrawlCause cap rounds now old middle new (fault.OverCalls made wanted its) = CapFills cap made wanted its rounds now middle new
  CrawlCause cap rounds now old middle new (fault.BadNumber rel column) = NumberFails cap rel column rounds now old middle new
  CrawlCause cap rounds now old middle new why = ⊥

  -- The rounds of a crawl stopped: those before the last one were asked whole, and each request of the last one at most
  -- once. Where there was no memory, no further round may have been begun.
  pub record CrawlHalts (cap : ℕ) (why : RunFault) (old new : List (Lane S)) : Type 0 where
    pub middle : List (Lane S)
    pub rounds : List (List Request)
    pub now : List Request
    pub asks_earlier : AsksEach seen schema (asked_in rounds) old middle
    pub asks_now : AsksSome seen schema now middle new
    pub of_methods : AreOfMethods (asked_in rounds ++ now)
    pub means : (instance : List Fact) → LanesHoldReachable old instance
        → AreCrawlRounds (meaning_of schema) schema.constants instance [] rounds
        × (0 < length now → IsCrawlRound (meaning_of schema) schema.constants instance (asked_in rounds) now)
    pub numbers : (instance : List Fact) → LanesHoldReachable old instance → ReceiveIntegers (meaning_of schema) instance (asked_in rounds)
    pub cause : CrawlCause cap rounds now old middle new why

  -- What a crawl of lanes that have attached the reachable relations does.
  abbrev pub AsksCrawl : ℕ → List (Lane S) → List (Lane S) → Result (List Fact) RunFault → Type 0
  AsksCrawl cap old new (Ok part) = HasCrawled cap part old new
  AsksCrawl cap old new (Err why) = CrawlHalts cap why old new

  -- The reachable relations were attached on each lane, and then crawled; or it stopped at the attaches.
  pub data AttachesAndCrawls (cap : ℕ) (old new : List (Lane S)) : Result (List Fact) RunFault → Type 0 where
    not_attached : (why : RunFault) → AttachesNeeded seen schema (needed_to_crawl schema) old new (Err why)
        → AttachesAndCrawls cap old new (Err why)
    attached : (middle : List (Lane S)) (result : Result (List Fact) RunFault)
        → AttachesNeeded seen schema (needed_to_crawl schema) old middle (Ok tt)
        → AsksCrawl cap middle new result → AttachesAndCrawls cap old new result

  -- What a crawl of lanes gives, with at most `cap` requests.
  pub record Crawls (cap : ℕ) (old new : List (Lane S)) (result : Result (List Fact) RunFault) : Type 0 where
    -- the facts are the accessible part of whatever instance the sources of each lane hold, each once
    pub facts : IfOk result (λ part. (instance : List Fact) → LanesHoldReachable new instance
        → (fact : Fact) → Contains part fact ↔ IsAccessible (meaning_of schema) schema.constants instance fact)
    pub once : IfOk result (λ part. AreDistinct part)
    -- they fit their relations, also where the sources tell nothing of what they hold
    pub fits : IfOk result (λ part. IsInstance (meaning_of schema) part)
    -- and so they have integers at integer columns
    pub integers : IfOk result (λ part. (fact : Fact) → Contains part fact → AreSorted itself (meaning_of schema) fact.rel fact.row)
    -- what was attached and asked, and why it stopped
    pub does : AttachesAndCrawls cap old new result
    -- lanes and kinds keep their order; without a method the lanes are as they were
    pub stay : LanesStay seen old new
    pub idle : schema.methods ≡ [] → new ≡ old
