-- Moves with what they ask for and what they bring, and which of them can be made where facts are exposed.
use Rattle.std.specs.Prelude.{◌≡◌, ◌⊎◌, ◌↔◌, ◌<◌, ℕ, List, [], Contains, Bool, IsTrue, false, slice_get, slice_index_or, Some}
use Rattle.meaning.specs.declared.types.Method.{Method}
use Rattle.meaning.specs.declared.types.Ground.{Ground}
use Rattle.meaning.specs.declared.types.Val.{Val}
use Rattle.meaning.specs.Values.{Value}
use Rattle.accessible_copy.specs.Known.{known_values}
use Rattle.accessible_copy.specs.Listing.{AreInputs}
use Rattle.least_search.specs.declared.space.Move.{Move}
use Rattle.exposure_search.specs.declared.marks.Marks.{Marks}
use Rattle.exposure_search.specs.declared.candidates.Candidate.{Candidate}
use Rattle.exposure_search.specs.Tries.{IsMarked}
use Rattle.exposure_search.specs.Making.{IsServed}

-- One of the facts holds the value.
abbrev pub IsHeld : List Ground → Val → Type 0
IsHeld facts value = (fact : Ground) × Contains facts fact × Contains fact.vals value

-- Each of the values is held by one of the facts.
abbrev pub AreHeld : List Ground → List Val → Type 0
AreHeld facts values = (value : Val) → Contains values value → IsHeld facts value

-- Each of the values is a known one.
abbrev pub AreKnown : List Val → List Val → Type 0
AreKnown known values = (value : Val) → Contains values value → Contains known value

-- The candidate's move exposes the fact by a method of its relation, at the method's cost. Whatever facts are exposed, these hold all
-- that it asks for exactly where the fact's values at the method's inputs are known, and all that it brings where all its values are.
pub record IsCandidateOf (methods : List Method) (constants : List Value) (fact : Ground) (candidate : Candidate) : Type 0 where
  pub method : Method
  pub named : slice_get methods candidate.step.method ≡ Some method
  pub of_relation : method.rel ≡ fact.rel
  pub cost : candidate.step.cost ≡ method.cost
  pub asks : (exposed : List Ground) → AreHeld exposed candidate.asks.items ↔
      AreInputs (known_values constants exposed) method.inputs fact.vals
  pub brings : (exposed : List Ground) → AreHeld exposed candidate.brings.items ↔
      AreKnown (known_values constants exposed) fact.vals

-- The candidate's move exposes a relevant base fact, and it says whether that is needed.
pub record IsCandidate (methods : List Method) (constants : List Value) (base : List Ground) (marks : Marks)
    (candidate : Candidate) : Type 0 where
  pub fact : Ground
  pub at : slice_get base candidate.step.fact ≡ Some fact
  pub relevant : IsMarked marks.relevant.items candidate.step.fact
  pub needed : IsTrue candidate.needed ↔ IsMarked marks.needed.items candidate.step.fact
  pub exposes : IsCandidateOf methods constants fact candidate

-- Each is a candidate, and each exposure of a relevant fact whose inputs are known where some facts are exposed has one.
pub record AreCandidates (methods : List Method) (constants : List Value) (base : List Ground) (marks : Marks)
    (candidates : List Candidate) : Type 0 where
  pub each : (candidate : Candidate) → Contains candidates candidate → IsCandidate methods constants base marks candidate
  pub all : (number of : ℕ) (fact : Ground) (method : Method) (exposed : List Ground) → slice_get base number ≡ Some fact →
      IsMarked marks.relevant.items number → slice_get methods of ≡ Some method → method.rel ≡ fact.rel →
      AreInputs (known_values constants exposed) method.inputs fact.vals →
      (candidate : Candidate) × Contains candidates candidate ×
      (candidate.step ≡ record { fact = number; method = of; cost = method.cost })

-- The move costs less than a bound, the set lacks its fact, the facts hold all that it asks for, and it gains something: its fact is
-- needed, or the facts do not hold all that it brings.
pub record CanBeMade (facts : List Ground) (set : List Bool) (below : ℕ) (candidate : Candidate) : Type 0 where
  pub low : candidate.step.cost < below
  pub lacks : slice_get set candidate.step.fact ≡ Some false
  pub known : AreHeld facts candidate.asks.items
  pub gains : IsTrue candidate.needed ⊎ (AreHeld facts candidate.brings.items → ⊥)

-- The moves are those of candidates that can be made, and one serves for each of these.
pub record AreMovesFrom (facts : List Ground) (set : List Bool) (below : ℕ) (candidates : List Candidate)
    (moves : List Move) : Type 0 where
  pub possible : (move : Move) → Contains moves move →
      (candidate : Candidate) × Contains candidates candidate × (candidate.step ≡ move) × CanBeMade facts set below candidate
  pub served : (candidate : Candidate) → Contains candidates candidate → CanBeMade facts set below candidate →
      IsServed moves candidate.step

-- The move is that of the candidate, and the facts hold all that it asks for.
pub record IsMoveOf (facts : List Ground) (move : Move) (candidate : Candidate) : Type 0 where
  pub step : candidate.step ≡ move
  pub known : AreHeld facts candidate.asks.items

-- The set lacks the move's fact, and the move is that of a candidate, where the facts hold all that it asks for.
pub record IsOpenFrom (facts : List Ground) (set : List Bool) (candidates : List Candidate) (move : Move) : Type 0 where
  pub lacks : slice_get set move.fact ≡ Some false
  pub candidate : Candidate
  pub among : Contains candidates candidate
  pub its : IsMoveOf facts move candidate

-- The numbers that are listed for a base fact.
abbrev pub numbers_of : List (List ℕ) → ℕ → List ℕ
numbers_of index fact = slice_index_or index fact []

-- The list of each base fact has the numbers of the candidates that expose it.
abbrev pub IsCandidateIndex : List Candidate → List (List ℕ) → Type 0
IsCandidateIndex candidates index =
    (number : ℕ) (candidate : Candidate) → slice_get candidates number ≡ Some candidate →
    Contains (numbers_of index candidate.step.fact) number
