-- One round of requests that several lanes share, each request asked by one of them.
use Rattle.std.specs.Prelude.{◌≡◌, ◌≤◌, ◌<◌, ℕ, true, false, List, [], ◌∷◌, length, map, Contains, Option, None, Some, IfSome, slice_get, Err}
use Rattle.std.specs.List.{AllByRecursion}
use Rattle.meaning.specs.declared.types.Fact.{Fact}
use Rattle.meaning.specs.declared.types.Request.{Request}
use Rattle.access_schema.specs.declared.schema.Schema.{Schema}
use Rattle.access_schema.specs.declared.schema.SourceLine.{SourceLine}
use Rattle.lane_pool.specs.Numbers.{total, times, EachOnce, AllAscend}
use Rattle.lane_pool.specs.Work.{FansOut}
use Rattle.source_trait.specs.Asking.{RowList, Seen, CallGives, agrees, pick}
use Rattle.source_trait.specs.Lanes.{source_of, AtKind, StepsOn}
use Rattle.source_trait.specs.Works.{Works}
use Rattle.source_trait.specs.declared.source.CallFault.TheVariants as call
use Rattle.source_trait.specs.declared.lanes.Kind.{Kind}
use Rattle.source_trait.specs.declared.lanes.Lane.{Lane}
use Rattle.source_trait.specs.declared.work.Ask.{Ask}
use Rattle.source_trait.specs.declared.work.Asked.{Asked}
use Rattle.source_trait.specs.declared.work.Asked.TheVariants as asked
use Rattle.middleware.specs.PlanSources.{line_for}
use Rattle.middleware.specs.Asked.{AsksLane}
use Rattle.middleware.specs.Branches.{RoseAt}
use Rattle.middleware.specs.declared.lane_round.AskFault.{AskFault}
use Rattle.middleware.specs.declared.lane_round.AskFault.TheVariants as fault

-- the lane with the same sources, and not stopped
abbrev pub started : {S : Type 0} → Lane S → Lane S
started lane = record { kinds = lane.kinds; stopped = false }

abbrev pub requests_in : List Ask → List Request
requests_in asks = map (λ a. a.request) asks

-- the kind that is asked is that of the source line of the request's relation
pub record HasItsKind (schema : Schema) (ask : Ask) : Type 0 where
  pub line : SourceLine
  pub line_is : line_for ask.request.rel schema.sources ≡ Some line
  pub kind : ask.kind ≡ line.kind

abbrev pub HaveTheirKinds : Schema → List Ask → Type 0
HaveTheirKinds schema asks = (k : ℕ) (ask : Ask) → slice_get asks k ≡ Some ask → HasItsKind schema ask

-- one more request in front, where there is one
abbrev pub with_request : Option Request → List Request → List Request
with_request None rest = rest
with_request (Some request) rest = request ∷ rest

-- the requests of these numbers, in order
abbrev pub at_numbers : List Request → List ℕ → List Request
at_numbers requests [] = []
at_numbers requests (k ∷ ks) = with_request (slice_get requests k) (at_numbers requests ks)

module _ {S : Type 0} (seen : S → Seen) where
  -- lane by lane, the sources were asked the requests of these numbers, in order, and nothing else that they tell changed
  abbrev pub LanesAsked : Schema → List Request → List (List ℕ) → List (Lane S) → List (Lane S) → Type 0
  LanesAsked schema requests [] [] [] = Unit {0}
  LanesAsked schema requests (l ∷ ls) (w ∷ ws) (u ∷ us) = AsksLane seen schema (at_numbers requests l) w.kinds.items u.kinds.items
      × LanesAsked schema requests ls ws us
  LanesAsked schema requests _ _ _ = ⊥

  -- Each request was asked once, by one of the lanes, and each lane asked its requests in their order.
  pub record AsksEach (schema : Schema) (requests : List Request) (old new : List (Lane S)) : Type 0 where
    pub lists : List (List ℕ)
    pub ascend : AllAscend lists
    pub once : EachOnce lists (length requests)
    pub lanes : LanesAsked schema requests lists old new

  -- Each request was asked at most once.
  pub record AsksSome (schema : Schema) (requests : List Request) (old new : List (Lane S)) : Type 0 where
    pub lists : List (List ℕ)
    pub once : (k : ℕ) → total (times k) lists ≤ 1
    pub lanes : LanesAsked schema requests lists old new

  -- A lane's sources were asked some requests, and last this one, whose call failed. Nothing was asked behind it.
  pub record FailsLast (schema : Schema) (request : Request) (old new : List (Kind S)) : Type 0 where
    pub earlier : List Request
    pub middle : List (Kind S)
    pub asks : AsksLane seen schema earlier old middle
    pub line : SourceLine
    pub line_is : line_for request.rel schema.sources ≡ Some line
    pub fails : StepsOn middle new line.kind
        (λ s t. CallGives (seen s) (seen t) request.rel request.positions request.values (Err call.Failed))

  -- Each row has the relation's arity and the values at the positions; and where the source tells what it holds, the rows are just those that agree.
  pub record Gives (request : Request) (rows : RowList) (s : S) : Type 0 where
    pub fits : IfSome ((seen s).attached request.rel) (λ a. AllByRecursion
        (λ row. (length row ≡ length a.0) × (agrees request.positions request.values row ≡ true)) rows)
    pub picks : IfSome ((seen s).held) (λ facts. rows ≡ pick facts request.rel request.positions request.values)

  -- the rows are those that one of the lanes gives
  pub record IsAnswer (lanes : List (Lane S)) (ask : Ask) (rows : RowList) : Type 0 where
    pub lane : Lane S
    pub among : Contains lanes lane
    pub gives : AtKind lane.kinds.items ask.kind (Gives ask.request rows)

  -- an answer for each request, in their order
  pub record AreAnswers (lanes : List (Lane S)) (asks : List Ask) (answers : List RowList) : Type 0 where
    pub len : length answers ≡ length asks
    pub each : (k : ℕ) (ask : Ask) (rows : RowList) → slice_get asks k ≡ Some ask → slice_get answers k ≡ Some rows
        → IsAnswer lanes ask rows

-- each source of a kind on one of the lanes tells that it holds just the facts of the kind
abbrev pub LanesHold : {S : Type 0} → (S → Seen) → List (Lane S) → (List ℕ → List Fact) → Type 0
LanesHold {S} seen lanes facts = (lane : Lane S) (kind : List ℕ) (s : S) → Contains lanes lane → source_of lane.kinds.items kind ≡ Some s
    → (seen s).held ≡ Some (facts kind)

-- for each request the rows of the facts of its kind that have its values
abbrev pub picked : (List ℕ → List Fact) → List Ask → List RowList
picked facts asks = map (λ ask. pick (facts ask.kind) ask.request.rel ask.request.positions ask.request.values) asks

-- no lane is stopped
abbrev pub NoneStopped : {S : Type 0} → List (Lane S) → Type 0
NoneStopped lanes = AllByRecursion (λ lane. lane.stopped ≡ false) lanes

-- the answers before this one are rows
abbrev pub RowsBelow : List Asked → ℕ → Type 0
RowsBelow answers n = (k : ℕ) → k < n → (rows : RowList) × (slice_get answers k ≡ Some (asked.Rows rows))

-- The first request in the list that was refused is this one, and its call failed.
abbrev pub FirstRefused : AskFault → List Asked → Type 0
FirstRefused fault.NoMemory answers = Unit {0}
FirstRefused (fault.CallFailed k) answers = (slice_get answers k ≡ Some asked.Failed) × RowsBelow answers k

-- A skipped request is not the first that was refused.
abbrev pub SkipsBehind : List Asked → Type 0
SkipsBehind answers = (k : ℕ) → RowsBelow answers k → slice_get answers k ≡ Some asked.Skipped → ⊥

-- What the lanes answered one by one; a refusal but for want of memory is the first failed call.
pub record RoundBreaks {S : Type 0} (seen : S → Seen) (asks : List Ask) (why : AskFault) (old new : List (Lane S)) : Type 0 where
  pub answers : List Asked
  pub fans_out : FansOut (Works seen) asks answers (map started old) new
  pub first : FirstRefused why answers

-- The failed request, and the lane that was asked it last: the count of faults of its source rose, and it is stopped.
pub record CallFailsAt {S : Type 0} (seen : S → Seen) (schema : Schema) (asks : List Ask) (k : ℕ) (old new : List (Lane S)) : Type 0 where
  pub ask : Ask
  pub at : slice_get asks k ≡ Some ask
  pub place : ℕ
  pub before : Lane S
  pub after : Lane S
  pub was : slice_get old place ≡ Some before
  pub now : slice_get new place ≡ Some after
  pub last : FailsLast seen schema ask.request before.kinds.items after.kinds.items
  pub rose : RoseAt seen schema ask.request.rel before.kinds.items after.kinds.items
  pub stopped : after.stopped ≡ true

-- why a round was refused
abbrev pub AskCause : {S : Type 0} → (S → Seen) → Schema → List Ask → AskFault → List (Lane S) → List (Lane S) → Type 0
AskCause seen schema asks fault.NoMemory old new = Unit {0}
AskCause seen schema asks (fault.CallFailed request) old new = RoundBreaks seen asks (fault.CallFailed request) old new
    × CallFailsAt seen schema asks request old new
