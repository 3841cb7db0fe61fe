-- Matches of a rule's body by their values at the frontier, which is the variables that occur in the body and in the head.
use Rattle.std.specs.Prelude.{◌≡◌, ◌⊎◌, ◌++◌, ℕ, ◌<◌, List, Contains, length, slice_get, Option, Some, None}
use Rattle.meaning.specs.declared.types.Term.{Term}
use Rattle.meaning.specs.declared.types.Term.TheVariants.{Var}
use Rattle.meaning.specs.declared.types.Atom.{Atom}
use Rattle.meaning.specs.declared.types.Rule.{Rule}
use Rattle.meaning.specs.declared.types.Val.{Val}
use Rattle.meaning.specs.declared.types.Val.TheVariants.{Const}
use Rattle.meaning.specs.declared.types.Ground.{Ground}
use Rattle.meaning.specs.Matching.{AreFacts, OccursIn, GroundsOf, Extends}
use Rattle.meaning.specs.Triggers.{bound}
use Rattle.homomorphism.specs.declared.assignment.Assignment.{Assignment}
use Rattle.homomorphism.specs.Bindings.{Agrees, at}
use Rattle.homomorphism.specs.Matches.{IsMatch}
use Rattle.homomorphism.specs.Rules.{IsMet}

-- One of the matches has the values of an assignment at each variable of the head that is below the width.
abbrev pub HasLike : List Assignment → List Atom → ℕ → (ℕ → Val) → Type 0
HasLike matches head width a =
    (m : Assignment) × Contains matches m × ((x : ℕ) → OccursIn head x → x < width → a x ≡ at m.vals x)

-- The assignments match, and one of them is like each assignment that agrees with what is given and makes each atom a fact.
pub record AreFrontier (facts : List Ground) (atoms head : List Atom) (given : List (Option Val)) (matches : List Assignment) : Type 0 where
  pub each : (m : Assignment) → Contains matches m → IsMatch facts atoms given m.vals
  pub all : (a : ℕ → Val) → Agrees given a → AreFacts Const (GroundsOf facts) a atoms →
      HasLike matches head (length given) a

-- Such matches were added behind what was there.
abbrev pub AddsFrontier : List Ground → List Atom → List Atom → List (Option Val) → List Assignment → List Assignment → Type 0
AddsFrontier facts atoms head given before after =
    (matches : List Assignment) × (after ≡ before ++ matches) × AreFrontier facts atoms head given matches

-- The matches make the body facts, and stand for all assignments that do: where a rule is met at each of the matches, in
-- whatever facts, it is met at each such assignment.
pub record StandForAll (facts : List Ground) (rule : Rule) (matches : List Assignment) : Type 0 where
  pub width : (m : Assignment) → Contains matches m → length m.vals ≡ bound rule.body
  pub each : (m : Assignment) → Contains matches m → AreFacts Const (GroundsOf facts) (at m.vals) rule.body
  pub all : (now : List Ground) → ((m : Assignment) → Contains matches m → IsMet now rule m.vals) →
      (a : ℕ → Val) → AreFacts Const (GroundsOf facts) a rule.body →
      (b : ℕ → Val) × Extends Const (GroundsOf now) rule a b

-- ---- parts of a body that name no variable of the head

-- More values are given, such that an assignment that makes the atoms facts has one like it that agrees with them.
pub record IsStart (facts : List Ground) (atoms head : List Atom) (given start : List (Option Val)) : Type 0 where
  pub width : length start ≡ length given
  pub wider : (a : ℕ → Val) → Agrees start a → Agrees given a
  pub like : (a : ℕ → Val) → Agrees given a → AreFacts Const (GroundsOf facts) a atoms →
      (b : ℕ → Val) × Agrees start b × AreFacts Const (GroundsOf facts) b atoms × ((x : ℕ) → OccursIn head x → x < length given → a x ≡ b x)

-- Each value is as it was given, or as it was found.
abbrev pub IsBetween : List (Option Val) → List (Option Val) → List (Option Val) → Type 0
IsBetween given found start =
    (length start ≡ length given) × ((x : ℕ) → (slice_get start x ≡ slice_get given x) ⊎ (slice_get start x ≡ slice_get found x))

-- All variables of the terms have a value, or those that had none still have none.
abbrev pub IsApart : List Term → List (Option Val) → List (Option Val) → Type 0
IsApart terms given start =
    ((x : ℕ) → Contains terms (Var x) → slice_get start x ≡ Some None → ⊥)
    ⊎ ((x : ℕ) → Contains terms (Var x) → slice_get given x ≡ Some None → slice_get start x ≡ Some None)

abbrev pub AreApart : List Atom → List (Option Val) → List (Option Val) → Type 0
AreApart atoms given start = (atom : Atom) → Contains atoms atom → IsApart atom.terms given start
