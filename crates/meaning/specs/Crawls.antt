-- The requests of a crawl, round by round (Benedikt, Leblay, ten Cate and Tsamoura 2016, accessible parts).
use Rattle.std.specs.Prelude.{◌≡◌, ◌⊎◌, ◌↔◌, ◌<◌, List, [], ◌∷◌, ◌++◌, Contains, length, slice_get, flat_map, Some}
use Rattle.std.specs.List.{AllZip}
use Rattle.std.specs.List.Sorted.{IsStrictlySortedBy}
use Rattle.std.specs.Ordering.{nat_cmp, ordering_then}
use Rattle.std.specs.Cmp.Lexicographic.{slice_cmp}
use Rattle.std.specs.declared.cmp.Ordering.{Ordering}
use Rattle.meaning.specs.declared.types.Method.{Method}
use Rattle.meaning.specs.declared.types.SchemaParts.{SchemaParts}
use Rattle.meaning.specs.declared.types.Fact.{Fact}
use Rattle.meaning.specs.declared.types.Request.{Request}
use Rattle.meaning.specs.Values.{Value}
use Rattle.meaning.specs.Requests.{rows_cmp}

-- A request is one of a method where it has the method's relation and inputs, with a value for each input.
pub record IsOfMethod (schema : SchemaParts) (request : Request) : Type 0 where
  pub method : Method
  pub of_schema : Contains schema.methods method
  pub of_relation : request.rel ≡ method.rel
  pub positions : request.positions ≡ method.inputs
  pub width : length request.values ≡ length request.positions

-- A fact is in the answer to a request where it is one of the relation and has the request's values at the positions.
pub record IsPicked (facts : List Fact) (request : Request) (fact : Fact) : Type 0 where
  pub holds : Contains facts fact
  pub of_relation : fact.rel ≡ request.rel
  pub agrees : AllZip (λ p value. slice_get fact.row p ≡ Some value) request.positions request.values

-- A fact was received where it is in the answer to one of the requests.
abbrev pub IsReceived : List Fact → List Request → Fact → Type 0
IsReceived facts requests fact = (request : Request) × Contains requests request × IsPicked facts request fact

-- A value is known after some requests where it is a constant of the list or stands in a fact that they received.
abbrev pub IsKnownAfter : List Value → List Fact → List Request → Value → Type 0
IsKnownAfter constants facts earlier value =
    Contains constants value ⊎ ((fact : Fact) × IsReceived facts earlier fact × Contains fact.row value)

-- A request can be asked after others where it is one of a method and each of its values is known.
abbrev pub CanAskAfter : SchemaParts → List Value → List Fact → List Request → Request → Type 0
CanAskAfter schema constants facts earlier request =
    IsOfMethod schema request
    × ((value : Value) → Contains request.values value → IsKnownAfter constants facts earlier value)

-- Requests are ordered by relation, then by positions, then by values.
abbrev pub request_cmp : Request → Request → Ordering
request_cmp x y =
    ordering_then (nat_cmp x.rel y.rel) (ordering_then (slice_cmp nat_cmp x.positions y.positions) (rows_cmp x.values y.values))

-- A round of a crawl is the requests that can be asked after the earlier ones and are none of these, each once and in
-- ascending order.
pub record IsCrawlRound (schema : SchemaParts) (constants : List Value) (facts : List Fact)
    (earlier round : List Request) : Type 0 where
  pub ascends : IsStrictlySortedBy request_cmp round
  pub exactly : (request : Request) → Contains round request
      ↔ (CanAskAfter schema constants facts earlier request × (Contains earlier request → ⊥))

-- Rounds follow one another where each has a request, and comes after the requests of those before it.
abbrev pub AreCrawlRounds : SchemaParts → List Value → List Fact → List Request → List (List Request) → Type 0
AreCrawlRounds schema constants facts earlier [] = Unit {0}
AreCrawlRounds schema constants facts earlier (round ∷ rounds) =
    IsCrawlRound schema constants facts earlier round × (0 < length round)
    × AreCrawlRounds schema constants facts (earlier ++ round) rounds

-- The requests of a crawl are those of rounds, after which each request that can be asked was asked.
pub record IsCrawl (schema : SchemaParts) (constants : List Value) (facts : List Fact)
    (requests : List Request) : Type 0 where
  pub rounds : List (List Request)
  pub are : AreCrawlRounds schema constants facts [] rounds
  pub requests_are : requests ≡ flat_map (λ round. round) rounds
  pub ended : (request : Request) → CanAskAfter schema constants facts requests request → Contains requests request
