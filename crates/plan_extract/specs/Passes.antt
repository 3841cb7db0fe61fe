-- The two passes back over a proof: what is wanted of the copy facts, and which exposures are marked.
use Rattle.std.specs.Prelude.{◌≡◌, ◌≤◌, ℕ, Bool, true, List, [], Contains, IsPermutation, length, take, slice_get, Some, None}
use Rattle.std.specs.List.{AllZip}
use Rattle.std.specs.Ordering.{nat_cmp}
use Rattle.std.specs.BTreeMap.{BTreeMap, get}
use Rattle.meaning.specs.declared.types.SchemaParts.{SchemaParts}
use Rattle.meaning.specs.declared.types.Rule.{Rule}
use Rattle.meaning.specs.declared.types.Branch.{Branch}
use Rattle.meaning.specs.declared.types.Ground.{Ground}
use Rattle.meaning.specs.declared.types.Trigger.{Trigger}
use Rattle.meaning.specs.declared.types.Val.{Val}
use Rattle.meaning.specs.declared.types.Val.TheVariants.{Label}
use Rattle.meaning.specs.Triggers.{State, IsFiringRun, bound}
use Rattle.meaning.specs.Runs.{Proof, last_part}
use Rattle.meaning.specs.Extract.{Exposure, branch_of}
use Rattle.accessible_copy.specs.Proving.{Proving, firings_of, exposed_in, IsWritten}
use Rattle.plan_extract.specs.Resting.{RestsOnFact, IsFirstWith, RestsOn}
use Rattle.plan_extract.specs.Trimmed.{IsShown, picked}
use Rattle.plan_extract.specs.Arranged.{AreKnown}

-- From each state with the wanted facts among these, whose next label is not higher, some firings lead to all the goal facts.
abbrev pub Serves : List Rule → ℕ → List Ground → List Ground → List Ground → Type 0
Serves rules next facts wanted goals =
    (small : State) → small.next ≤ next → ((fact : Ground) → Contains wanted fact → Contains facts fact → Contains small.facts fact) →
    (kept : List Trigger) × (last : State) × IsFiringRun rules small kept last
    × ((fact : Ground) → Contains goals fact → Contains last.facts fact)

-- The pass back over the copy firings has come to the state before the entry with that number, which has so many copy facts: with
-- those of the wanted facts that stand there the goal facts can be made, and the match rests on each wanted fact.
pub record IsBack (schema : SchemaParts) (proof : Proving) (goals : List Ground) (left after : ℕ) (wanted : List Ground) : Type 0 where
  pub within : left ≤ length proof.entries
  pub state : Proof
  pub front : IsWritten schema proof.constants 0 proof.start (take left proof.entries) state
  pub long : after ≡ length state.copy
  pub copy : state.copy ≡ take after proof.end.copy
  pub base : state.base ≡ proof.end.base
  pub exposed : exposed_in (take left proof.entries) ≡ exposed_in proof.entries
  pub serves : Serves schema.rules state.next state.copy wanted goals
  pub rests : (fact : Ground) → Contains wanted fact → RestsOnFact schema proof goals fact

-- No copy firing is left.
pub record AreWanted (schema : SchemaParts) (proof : Proving) (goals wanted : List Ground) : Type 0 where
  pub left : ℕ
  pub after : ℕ
  pub back : IsBack schema proof goals left after wanted
  pub early : last_part 0 (firings_of (take left proof.entries)) ≤ 1

-- The trigger is one of a rule, with a value for each variable of its body.
pub record HasRule (rules : List Rule) (trigger : Trigger) (rule : Rule) : Type 0 where
  pub numbered : slice_get rules trigger.rule ≡ Some rule
  pub width : length trigger.values ≡ bound rule.body

-- Each label has the number of the first exposure whose fact has it.
pub record AreOrigins (exposures : List Exposure) (origins : BTreeMap ℕ ℕ) : Type 0 where
  pub each : (label number : ℕ) → get nat_cmp origins label ≡ Some number → (e : Exposure) × IsFirstWith exposures label number e
  pub all : (label : ℕ) (e : Exposure) → get nat_cmp origins label ≡ None → Contains exposures e →
      Contains e.fact.vals (Label label) → ⊥

-- A number is the origin of a label that stands at the place.
abbrev pub IsOriginAt : BTreeMap ℕ ℕ → List Val → ℕ → ℕ → Type 0
IsOriginAt origins vals place number =
    (label : ℕ) × (slice_get vals place ≡ Some (Label label)) × (get nat_cmp origins label ≡ Some number)

-- The exposure with that number is marked.
abbrev pub IsMarked : List Bool → ℕ → Type 0
IsMarked marks number = slice_get marks number ≡ Some true

-- Exposures of wanted facts are marked, and a match rests on each that is.
pub record HoldsWanted (exposures : List Exposure) (wanted : List Ground) (marks : List Bool) : Type 0 where
  pub long : length marks ≡ length exposures
  pub wanted_are : (k : ℕ) (e : Exposure) → slice_get exposures k ≡ Some e → Contains wanted e.fact → IsMarked marks k
  pub rests : (k : ℕ) (e : Exposure) → slice_get exposures k ≡ Some e → IsMarked marks k →
      RestsOn (λ fact. Contains wanted fact) exposures e

-- For each label at an input of a marked exposure from that number on, the first exposure that has it is marked.
abbrev pub AreClosed : List Exposure → ℕ → List Bool → Type 0
AreClosed exposures from marks =
    (k : ℕ) (e : Exposure) (place label : ℕ) → from ≤ k → slice_get exposures k ≡ Some e → IsMarked marks k →
    Contains e.method.inputs place → slice_get e.fact.vals place ≡ Some (Label label) →
    (number : ℕ) × (first : Exposure) × IsFirstWith exposures label number first × IsMarked marks number

-- Just the exposures on which the match rests are marked.
pub record AreMarked (exposures : List Exposure) (wanted : List Ground) (marks : List Bool) : Type 0 where
  pub held : HoldsWanted exposures wanted marks
  pub closed : AreClosed exposures 0 marks

-- Those exposures of the proof are kept that the two passes mark for the goal facts.
pub record AreKept (schema : SchemaParts) (proof : Proving) (goals : List Ground) (kept : List Exposure) : Type 0 where
  pub exposures : List Exposure
  pub shown : AllZip (IsShown schema) proof.exposed exposures
  pub wanted : List Ground
  pub are_wanted : AreWanted schema proof goals wanted
  pub marks : List Bool
  pub marked : AreMarked exposures wanted marks
  pub kept_is : kept ≡ picked exposures marks

-- The branch is read off the kept exposures, in the proof's order.
pub record IsReadOff (schema : SchemaParts) (proof : Proving) (goals : List Ground) (head : List Val) (branch : Branch) : Type 0 where
  pub kept : List Exposure
  pub are_kept : AreKept schema proof goals kept
  pub branch_is : branch ≡ branch_of kept head

-- The branch is read off the kept exposures, in an order in which their inputs are known.
pub record IsReadArranged (schema : SchemaParts) (proof : Proving) (goals : List Ground) (head : List Val) (branch : Branch) : Type 0 where
  pub kept : List Exposure
  pub are_kept : AreKept schema proof goals kept
  pub ordered : List Exposure
  pub same : IsPermutation kept ordered
  pub known : AreKnown [] ordered
  pub branch_is : branch ≡ branch_of ordered head
