-- Values that are given in place, to one atom after another, so that the atoms are facts.
use Rattle.std.specs.Prelude.{◌≡◌, ◌<◌, ◌⊎◌, ℕ, List, [], Contains, map, length, Option, Some, None, slice_get, slice_index_or}
use Rattle.meaning.specs.declared.types.Term.{Term}
use Rattle.meaning.specs.declared.types.Term.TheVariants.{Var}
use Rattle.meaning.specs.declared.types.Val.{Val}
use Rattle.meaning.specs.declared.types.Val.TheVariants.{Const}
use Rattle.meaning.specs.declared.types.Atom.{Atom}
use Rattle.meaning.specs.declared.types.Ground.{Ground}
use Rattle.meaning.specs.Matching.{AreFacts, OccursIn, GroundsOf}
use Rattle.homomorphism.specs.Bindings.{Agrees}

-- Variables of the terms that had no value may have one, and nothing else changes.
abbrev pub Touches : List Term → List (Option Val) → List (Option Val) → Type 0
Touches terms before now =
    (length now ≡ length before)
    × ((x : ℕ) → (slice_get now x ≡ slice_get before x) ⊎ (Contains terms (Var x) × (slice_get before x ≡ Some None)))

-- The variables of the terms that have no value.
pub record AreFree (terms : List Term) (given : List (Option Val)) (free : List ℕ) : Type 0 where
  pub all : (x : ℕ) → Contains terms (Var x) → slice_get given x ≡ Some None → Contains free x
  pub without : (x : ℕ) → Contains free x → slice_get given x ≡ Some None

-- The atoms with these numbers.
abbrev pub taken : List Atom → List ℕ → List Atom
taken atoms numbers = map (λ n. slice_index_or atoms n (record { rel = 0; terms = [] })) numbers

-- More values are given, and under each assignment that agrees with them the atoms are facts.
pub record Widens (facts : List Ground) (atoms : List Atom) (given found : List (Option Val)) : Type 0 where
  pub width : length found ≡ length given
  pub kept : (x : ℕ) (v : Val) → slice_get given x ≡ Some (Some v) → slice_get found x ≡ Some (Some v)
  pub sound : (a : ℕ → Val) → Agrees found a → AreFacts Const (GroundsOf facts) a atoms

-- The variables of the atoms that had no value still have none.
abbrev pub AreUntouched : List Atom → List (Option Val) → List (Option Val) → Type 0
AreUntouched atoms given now = (x : ℕ) → OccursIn atoms x → slice_get given x ≡ Some None → slice_get now x ≡ Some None

-- Lists of numbers below a count, among which each such number is.
pub record AreRuns (count : ℕ) (runs : List (List ℕ)) : Type 0 where
  pub each : (n : ℕ) → n < count → (run : List ℕ) × Contains runs run × Contains run n
  pub within : (run : List ℕ) (n : ℕ) → Contains runs run → Contains run n → n < count
