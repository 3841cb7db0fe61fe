-- Labels read as texts, so that labelled facts are an instance.
use Rattle.std.specs.Prelude.{◌≡◌, ℕ, ◌<◌, List, Contains}
use Rattle.meaning.specs.declared.types.Val.{Val}
use Rattle.meaning.specs.declared.types.Ground.{Ground}
use Rattle.meaning.specs.declared.types.Val.TheVariants.{Const, Label}
use Rattle.meaning.specs.Values.{Value}

-- A naming gives the labels below the next one texts that differ from each other and from the constants.
pub record IsNaming (constants : List Value) (next : ℕ) (h : ℕ → Value) : Type 0 where
  pub differ : (j k : ℕ) → j < next → k < next → h j ≡ h k → j ≡ k
  pub new : (k : ℕ) → k < next → Contains constants (h k) → ⊥

-- A value has a name where it is a constant of the list or a label below the next one.
abbrev pub IsNamed : List Value → ℕ → Val → Type 0
IsNamed constants next (Const c) = Contains constants c
IsNamed constants next (Label k) = k < next

-- Facts have names where each of their values has one.
abbrev pub AreNamed : List Value → ℕ → List Ground → Type 0
AreNamed constants next facts =
    (fact : Ground) (v : Val) → Contains facts fact → Contains fact.vals v → IsNamed constants next v
