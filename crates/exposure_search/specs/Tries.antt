-- Exposures as moves between sets of base facts, each by its number.
use Rattle.std.specs.Prelude.{◌≡◌, ◌⊎◌, ℕ, ◌+◌, List, [], ◌∷◌, Contains, Bool, true, false, slice_get, Some}
use Rattle.meaning.specs.declared.types.SchemaParts.{SchemaParts}
use Rattle.meaning.specs.declared.types.Ground.{Ground}
use Rattle.meaning.specs.declared.types.Trigger.{Trigger}
use Rattle.meaning.specs.declared.types.Firing.{Firing}
use Rattle.meaning.specs.declared.types.Query.{Query}
use Rattle.meaning.specs.declared.types.Firing.TheVariants.{Base, Copy, Expose}
use Rattle.meaning.specs.declared.types.Val.{Val}
use Rattle.meaning.specs.declared.types.Val.TheVariants.{Const}
use Rattle.meaning.specs.Values.{Value}
use Rattle.meaning.specs.Matching.{GroundsOf, IsQueryAnswer}
use Rattle.meaning.specs.Triggers.{State, IsFiringRun}
use Rattle.meaning.specs.Extract.{Exposure, Exposes}
use Rattle.least_search.specs.declared.space.Move.{Move}

-- The base facts that a set marks.
abbrev pub picked : List Ground → List Bool → List Ground
picked [] set = []
picked (fact ∷ base) [] = []
picked (fact ∷ base) (true ∷ set) = fact ∷ picked base set
picked (fact ∷ base) (false ∷ set) = picked base set

-- The move stands for an exposure that is possible where the facts of the set are exposed, at its cost.
pub record IsMove (schema : SchemaParts) (constants : List Value) (base : List Ground) (set : List Bool) (move : Move)
    (e : Exposure) : Type 0 where
  pub fact : slice_get base move.fact ≡ Some e.fact
  pub only : (number : ℕ) → slice_get base number ≡ Some e.fact → number ≡ move.fact
  pub method : slice_get schema.methods move.method ≡ Some e.method
  pub cost : move.cost ≡ e.method.cost
  pub new : slice_get set move.fact ≡ Some false
  pub exposes : Exposes schema constants base (picked base set) e

-- The move is possible at the set.
abbrev pub IsOpen : SchemaParts → List Value → List Ground → List Bool → Move → Type 0
IsOpen schema constants base set move = (e : Exposure) × IsMove schema constants base set move e

-- The mark with that number is set.
abbrev pub IsMarked : List Bool → ℕ → Type 0
IsMarked marks number = slice_get marks number ≡ Some true

-- The move is possible at the set, and its fact is marked.
abbrev pub IsRelevantMove : SchemaParts → List Value → List Ground → List Bool → List Bool → Move → Type 0
IsRelevantMove schema constants base marks set move = IsOpen schema constants base set move × IsMarked marks move.fact

-- The fact with that number is marked, or holds a value that is not among the known ones.
abbrev pub Adds : List Val → List Ground → List Bool → ℕ → Type 0
Adds known base needed number =
    IsMarked needed number
    ⊎ ((fact : Ground) × (v : Val) × (slice_get base number ≡ Some fact) × Contains fact.vals v × (Contains known v → ⊥))

-- Some run of firings from the facts has a match of one of the queries with this head.
pub record HasMatchFrom (schema : SchemaParts) (queries : List Query) (head : List Val) (next : ℕ)
    (facts : List Ground) : Type 0 where
  pub copy : List Trigger
  pub end : State
  pub goal : Query
  pub run : IsFiringRun schema.rules (record { facts = facts; next = next }) copy end
  pub among : Contains queries goal
  pub answer : IsQueryAnswer Const (GroundsOf end.facts) goal head

-- How many exposures a log has.
abbrev pub exposures_in : List Firing → ℕ
exposures_in [] = 0
exposures_in (Base trigger ∷ log) = exposures_in log
exposures_in (Copy trigger ∷ log) = exposures_in log
exposures_in (Expose number fact ∷ log) = exposures_in log + 1
