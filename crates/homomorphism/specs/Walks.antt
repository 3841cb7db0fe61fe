-- Parts of a body that share no variable without a value, and the matches of the body that those of its parts make.
use Rattle.std.specs.Prelude.{◌≡◌, ◌<◌, ◌≤◌, ◌-◌, ◌++◌, ◌∷◌, [], ℕ, List, Contains, map, length, replicate, Option, Some, None, slice_index_or}
use Rattle.std.specs.List.{range_with_len}
use Rattle.meaning.specs.declared.types.Val.{Val}
use Rattle.meaning.specs.declared.types.Atom.{Atom}
use Rattle.meaning.specs.declared.types.Ground.{Ground}
use Rattle.meaning.specs.declared.types.Rule.{Rule}
use Rattle.meaning.specs.declared.types.Term.TheVariants.{Var}
use Rattle.meaning.specs.Matching.{OccursIn}
use Rattle.meaning.specs.Triggers.{bound}
use Rattle.homomorphism.specs.declared.assignment.Assignment.{Assignment}
use Rattle.homomorphism.specs.declared.turning.Turning.{Turning}
use Rattle.homomorphism.specs.Bindings.{at, values_of}
use Rattle.homomorphism.specs.Frontier.{AreFrontier}
use Rattle.homomorphism.specs.Widening.{AreRuns, AreUntouched, taken}

-- ---- a number below each of several counts

-- Each list of numbers, with each number below the count before it; the first list only with those from `from` on.
abbrev pub spread : ℕ → ℕ → List (List ℕ) → List (List ℕ)
spread from count [] = []
spread from count (numbers ∷ more) = map (λ n. n ∷ numbers) (range_with_len from (count - from)) ++ spread 0 count more

-- All choices of a number below each count, from these on: the first number changes first.
abbrev pub turns : List ℕ → List ℕ → List (List ℕ)
turns [] numbers = [] ∷ []
turns (count ∷ counts) [] = [] ∷ []
turns (count ∷ counts) (n ∷ numbers) = spread n count (turns counts numbers)

-- Each number is below its count.
abbrev pub AreWithin : List ℕ → List ℕ → Type 0
AreWithin [] [] = Unit {0}
AreWithin [] (n ∷ numbers) = ⊥
AreWithin (count ∷ counts) [] = ⊥
AreWithin (count ∷ counts) (n ∷ numbers) = (n < count) × AreWithin counts numbers

-- There is a next choice, and it is added behind what was there.
abbrev pub Advances : List ℕ → List ℕ → List ℕ → List ℕ → Type 0
Advances counts numbers before after =
    (next : List ℕ) × (after ≡ before ++ next) × AreWithin counts next × (turns counts numbers ≡ numbers ∷ turns counts next)

-- All choices below the counts.
abbrev pub begun : List ℕ → Turning
begun counts = record { counts = counts; numbers = replicate (length counts) 0 }

-- What is left behind the next choice, if anything is.
abbrev pub IsLater : Turning → Option Turning → Type 0
IsLater one None = turns one.counts one.numbers ≡ one.numbers ∷ []
IsLater one (Some later) = AreWithin later.counts later.numbers × (turns one.counts one.numbers ≡ one.numbers ∷ turns later.counts later.numbers)

-- The choices of several turnings, those of the last one first.
abbrev pub choices : List Turning → List (List ℕ)
choices [] = []
choices (one ∷ more) = choices more ++ turns one.counts one.numbers

-- ---- matches of parts

-- The match of a part that has its number.
abbrev pub picked_of : List (List Assignment) → List ℕ → ℕ → Assignment
picked_of lists numbers part = slice_index_or (slice_index_or lists part []) (slice_index_or numbers part 0) (record { vals = [] })

-- Each variable has its value in the match of the part that owns it.
abbrev pub together : List (List Assignment) → List ℕ → List ℕ → Assignment
together lists owners numbers =
    record { vals = values_of (length owners) (λ x. at (picked_of lists numbers (slice_index_or owners x 0)).vals x) }

-- The matches of the body that are left.
abbrev pub left_of : List (List Assignment) → List ℕ → List Turning → List Assignment
left_of lists owners turnings = map (together lists owners) (choices turnings)

-- ---- parts

-- The value of a variable that is open to a part: one without a value gets any, if the part does not own it.
pub record IsShut (value : Option Val) (owner part : ℕ) (shut : Option Val) : Type 0 where
  pub kept : (v : Val) → value ≡ Some v → shut ≡ Some v
  pub open_ : value ≡ None → owner ≡ part → shut ≡ None
  pub own : shut ≡ None → (value ≡ None) × (owner ≡ part)

-- Values with which the matches of a part begin.
abbrev pub AreShut : List (Option Val) → List ℕ → ℕ → List (Option Val) → Type 0
AreShut start owners part given =
    (x : ℕ) → x < length given → IsShut (slice_index_or start x None) (slice_index_or owners x 0) part (slice_index_or given x None)

-- A part has the variables without a value that stand in its atoms.
pub record IsPart (atoms : List Atom) (start : List (Option Val)) (owners : List ℕ) (part : ℕ) (run : List ℕ) (given : List (Option Val)) : Type 0 where
  pub width : length given ≡ length start
  pub shut : AreShut start owners part given
  pub free : AreUntouched (taken atoms run) start given

-- Each atom is in a part, and each variable has a part that owns it.
pub record AreParts (atoms : List Atom) (start : List (Option Val)) (runs : List (List ℕ)) (owners : List ℕ) (givens : List (List (Option Val))) : Type 0 where
  pub runs_are : AreRuns (length atoms) runs
  pub width : length owners ≡ length start
  pub below : (x : ℕ) → x < length owners → slice_index_or owners x 0 < length runs
  pub count : length givens ≡ length runs
  pub each : (i : ℕ) → i < length runs →
      IsPart atoms start owners i (slice_index_or runs i []) (slice_index_or givens i [])

-- Each part has its matches.
abbrev pub AreListed : List Ground → List Atom → List Atom → List (List ℕ) → List (List (Option Val)) →
    List (List Assignment) → Type 0
AreListed facts atoms head runs givens lists =
    (i : ℕ) → i < length lists → AreFrontier facts (taken atoms (slice_index_or runs i [])) head (slice_index_or givens i []) (slice_index_or lists i [])

-- ---- groups of the atoms of a head, which share no existential variable

-- Of each part a match is gone through, and no more than there are.
abbrev pub AreCounts : List ℕ → List ℕ → Type 0
AreCounts whole counts =
    (length counts ≡ length whole)
    × ((i : ℕ) → i < length whole → (0 < slice_index_or counts i 0) × (slice_index_or counts i 0 ≤ slice_index_or whole i 0))

-- Of each part that owns a variable of the atoms all matches are gone through.
abbrev pub AreTurned : List ℕ → List ℕ → List Atom → List ℕ → Type 0
AreTurned owners whole atoms counts =
    (x : ℕ) → OccursIn atoms x → x < length owners →
    slice_index_or counts (slice_index_or owners x 0) 0 ≡ slice_index_or whole (slice_index_or owners x 0) 0

-- One of the counts turns the parts that the atoms name.
abbrev pub IsServed : List ℕ → List ℕ → List (List ℕ) → List Atom → Type 0
IsServed owners whole groups atoms =
    (k : ℕ) × (k < length groups) × AreTurned owners whole atoms (slice_index_or groups k [])

-- Each atom of the head has counts that turn the parts it names, and atoms that share an existential variable have the same.
pub record AreGroups (rule : Rule) (owners whole : List ℕ) (groups : List (List ℕ)) : Type 0 where
  pub each : (counts : List ℕ) → Contains groups counts → AreCounts whole counts
  pub of : ℕ → ℕ
  pub served : (atom : Atom) → Contains rule.head atom →
      (k : ℕ) × (k < length groups) × AreTurned owners whole (atom ∷ []) (slice_index_or groups k [])
      × ((x : ℕ) → Contains atom.terms (Var x) → bound rule.body ≤ x → of x ≡ k)
