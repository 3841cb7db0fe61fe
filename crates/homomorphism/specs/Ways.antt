-- The ways to make one atom a fact, as given values.
use Rattle.std.specs.Prelude.{◌≡◌, ◌⊎◌, ℕ, List, [], ◌∷◌, Contains, length, Option, Some, None}
use Rattle.meaning.specs.declared.types.Atom.{Atom}
use Rattle.meaning.specs.declared.types.Val.{Val}
use Rattle.meaning.specs.declared.types.Ground.{Ground}
use Rattle.meaning.specs.Matching.{OccursIn}
use Rattle.meaning.specs.Triggers.{ground}
use Rattle.homomorphism.specs.Bindings.{Agrees, IsBound}
use Rattle.homomorphism.specs.Narrowing.{Narrows}

-- A way to make the atom this fact gives more values, so that the atom's terms have the values of the fact.
pub record IsWay (fact : Ground) (atom : Atom) (given way : List (Option Val)) : Type 0 where
  pub relation : fact.rel ≡ atom.rel
  pub narrows : Narrows atom.terms fact.vals given way

-- There is a way where some assignment that agrees makes the atom this fact, and none otherwise.
abbrev pub IsWayIf : Ground → Atom → List (Option Val) → Option (List (Option Val)) → Type 0
IsWayIf fact atom given (Some way) = IsWay fact atom given way
IsWayIf fact atom given None = (a : ℕ → Val) → Agrees given a → ground a atom ≡ fact → ⊥

-- No assignment agrees with two of the lists.
abbrev pub AreApart : List (List (Option Val)) → Type 0
AreApart [] = Unit {0}
AreApart (given ∷ more) =
    ((other : List (Option Val)) → Contains more other → (a : ℕ → Val) → Agrees given a → Agrees other a → ⊥)
    × AreApart more

-- Each assignment that agrees and makes the atom one of the facts agrees with exactly one of the ways.
pub record AreWays (facts : List Ground) (atom : Atom) (given : List (Option Val)) (ways : List (List (Option Val))) : Type 0 where
  pub width : (way : List (Option Val)) → Contains ways way → length way ≡ length given
  pub covers : (way : List (Option Val)) (x : ℕ) → Contains ways way → IsBound given x ⊎ OccursIn (atom ∷ []) x →
      IsBound way x
  pub wider : (way : List (Option Val)) (a : ℕ → Val) → Contains ways way → Agrees way a → Agrees given a
  pub sound : (way : List (Option Val)) (a : ℕ → Val) → Contains ways way → Agrees way a →
      Contains facts (ground a atom)
  pub complete : (a : ℕ → Val) → Agrees given a → Contains facts (ground a atom) →
      (way : List (Option Val)) × Contains ways way × Agrees way a
  pub apart : AreApart ways
