-- The assignments that make atoms facts and agree with given values (Chandra and Merlin 1977, homomorphisms).
use Rattle.std.specs.Prelude.{◌≡◌, ◌⊎◌, ◌++◌, ℕ, ◌<◌, List, Contains, length, Option}
use Rattle.meaning.specs.declared.types.Atom.{Atom}
use Rattle.meaning.specs.declared.types.Val.{Val}
use Rattle.meaning.specs.declared.types.Val.TheVariants.{Const}
use Rattle.meaning.specs.declared.types.Ground.{Ground}
use Rattle.meaning.specs.Matching.{AreFacts, OccursIn, GroundsOf}
use Rattle.meaning.specs.Search.{AreDistinct}
use Rattle.homomorphism.specs.declared.assignment.Assignment.{Assignment}
use Rattle.homomorphism.specs.Bindings.{Agrees, IsBound, at, values_of}

-- Values match where there is one for each variable, they agree with what is given, and they make each atom a fact.
pub record IsMatch (facts : List Ground) (atoms : List Atom) (given : List (Option Val)) (values : List Val) : Type 0 where
  pub width : length values ≡ length given
  pub agrees : Agrees given (at values)
  pub facts_are : AreFacts Const (GroundsOf facts) (at values) atoms

-- There is no match where no assignment that agrees with what is given makes each atom a fact.
abbrev pub NoMatch : List Ground → List Atom → List (Option Val) → Type 0
NoMatch facts atoms given = (a : ℕ → Val) → Agrees given a → AreFacts Const (GroundsOf facts) a atoms → ⊥

-- The atoms cover the variables where each variable has a given value or occurs in an atom.
abbrev pub AreCovered : List Atom → List (Option Val) → Type 0
AreCovered atoms given = (x : ℕ) → x < length given → IsBound given x ⊎ OccursIn atoms x

-- The matches are exactly the assignments that agree with what is given and make each atom a fact, each once.
pub record AreMatches (facts : List Ground) (atoms : List Atom) (given : List (Option Val)) (matches : List Assignment) : Type 0 where
  pub each : (m : Assignment) → Contains matches m → IsMatch facts atoms given m.vals
  pub all : (a : ℕ → Val) → Agrees given a → AreFacts Const (GroundsOf facts) a atoms →
      Contains matches (record { vals = values_of (length given) a })
  pub once : AreDistinct matches

-- All matches were added behind what was there.
abbrev pub AddsMatches : List Ground → List Atom → List (Option Val) → List Assignment → List Assignment → Type 0
AddsMatches facts atoms given before after =
    (matches : List Assignment) × (after ≡ before ++ matches) × AreMatches facts atoms given matches
