-- Rules over labelled facts: the matches of a body, and whether they extend to the head
-- (Fagin, Kolaitis, Miller and Popa 2005, chase steps).
use Rattle.std.specs.Prelude.{◌≡◌, ℕ, List, Contains, length}
use Rattle.meaning.specs.declared.types.Val.{Val}
use Rattle.meaning.specs.declared.types.Val.TheVariants.{Const}
use Rattle.meaning.specs.declared.types.Ground.{Ground}
use Rattle.meaning.specs.declared.types.Rule.{Rule}
use Rattle.meaning.specs.Matching.{AreFacts, GroundsOf, Extends}
use Rattle.meaning.specs.Triggers.{bound}
use Rattle.meaning.specs.Search.{AreDistinct}
use Rattle.homomorphism.specs.declared.assignment.Assignment.{Assignment}
use Rattle.homomorphism.specs.Bindings.{at, values_of}

-- The matches are exactly the assignments of the body's variables that make the body facts, each once.
pub record AreBodyMatches (facts : List Ground) (rule : Rule) (matches : List Assignment) : Type 0 where
  pub width : (m : Assignment) → Contains matches m → length m.vals ≡ bound rule.body
  pub each : (m : Assignment) → Contains matches m → AreFacts Const (GroundsOf facts) (at m.vals) rule.body
  pub all : (a : ℕ → Val) → AreFacts Const (GroundsOf facts) a rule.body →
      Contains matches (record { vals = values_of (bound rule.body) a })
  pub once : AreDistinct matches

-- A rule is met at values where some assignment extends them and makes the head facts.
abbrev pub IsMet : List Ground → Rule → List Val → Type 0
IsMet facts rule values = (b : ℕ → Val) × Extends Const (GroundsOf facts) rule (at values) b

-- A rule is unmet at values where no assignment that extends them makes the head facts.
abbrev pub IsUnmet : List Ground → Rule → List Val → Type 0
IsUnmet facts rule values = (b : ℕ → Val) → Extends Const (GroundsOf facts) rule (at values) b → ⊥

-- An unmet match has a value for each variable of the body and makes the body facts, and the rule is unmet at it.
pub record IsUnmetMatch (facts : List Ground) (rule : Rule) (values : List Val) : Type 0 where
  pub width : length values ≡ bound rule.body
  pub body : AreFacts Const (GroundsOf facts) (at values) rule.body
  pub unmet : IsUnmet facts rule values
