-- More values that are given, so that some terms have some values.
use Rattle.std.specs.Prelude.{◌≡◌, ℕ, ◌<◌, List, Contains, map, max, length, Option, Some, None}
use Rattle.meaning.specs.declared.types.Term.{Term}
use Rattle.meaning.specs.declared.types.Term.TheVariants.{Var}
use Rattle.meaning.specs.declared.types.Val.{Val}
use Rattle.meaning.specs.declared.types.Val.TheVariants.{Const, Label}
use Rattle.meaning.specs.Matching.{value_of}
use Rattle.homomorphism.specs.Bindings.{Agrees, IsBound, at}

-- More values are given, such that the assignments that agree are those that agreed and give the terms these values.
pub record Narrows (terms : List Term) (vals : List Val) (given narrow : List (Option Val)) : Type 0 where
  pub width : length narrow ≡ length given
  pub kept : (x : ℕ) → IsBound given x → IsBound narrow x
  pub bound : (x : ℕ) → Contains terms (Var x) → IsBound narrow x
  pub wider : (a : ℕ → Val) → Agrees narrow a → Agrees given a
  pub sound : (a : ℕ → Val) → Agrees narrow a → map (value_of Const a) terms ≡ vals
  pub complete : (a : ℕ → Val) → Agrees given a → map (value_of Const a) terms ≡ vals → Agrees narrow a

-- No assignment that agrees with what is given gives the terms these values.
abbrev pub Differs : List Term → List Val → List (Option Val) → Type 0
Differs terms vals given = (a : ℕ → Val) → Agrees given a → map (value_of Const a) terms ≡ vals → ⊥

-- More values are given where some assignment gives the terms these values, and none otherwise.
abbrev pub NarrowsIf : List Term → List Val → List (Option Val) → Option (List (Option Val)) → Type 0
NarrowsIf terms vals given (Some narrow) = Narrows terms vals given narrow
NarrowsIf terms vals given None = Differs terms vals given

-- The value that is given, or the label 0.
abbrev pub value_or_none : Option Val → Val
value_or_none None = Label 0
value_or_none (Some v) = v

-- The assignments that agree with the fixed values are those that have these values.
pub record Gives (values : List Val) (width : ℕ) (fixed : List (Option Val)) : Type 0 where
  pub width_is : length fixed ≡ max (length values) width
  pub sound : (a : ℕ → Val) → Agrees fixed a → (x : ℕ) → x < length values → a x ≡ at values x
  pub complete : (a : ℕ → Val) → ((x : ℕ) → x < length values → a x ≡ at values x) → Agrees fixed a
