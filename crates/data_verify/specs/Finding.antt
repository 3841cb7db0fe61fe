-- The first broken rule among some of the rules.
use Rattle.std.specs.Prelude.{◌≡◌, ℕ, ◌<◌, List, length, slice_get, Option, Some, None, true, false}
use Rattle.meaning.specs.declared.types.Rule.{Rule}
use Rattle.meaning.specs.declared.types.Fact.{Fact}
use Rattle.meaning.specs.Matching.{MeetsRule, itself, FactsOf}
use Rattle.data_verify.specs.declared.broken.Broken.{Broken}
use Rattle.data_verify.specs.Breaking.{AreLeastBreaking}
use Rattle.data_verify.specs.Inclusion.{is_inclusion}

-- Each rule, with its number.
abbrev pub IsRule : ℕ → Rule → Type 0
IsRule number rule = Unit {0}

-- The rules that are inclusion dependencies.
abbrev pub IsInclusion : ℕ → Rule → Type 0
IsInclusion number rule = is_inclusion rule ≡ true

-- The rules that are none, and stand before the one that was found, if one was.
abbrev pub IsOpen : Option Broken → ℕ → Rule → Type 0
IsOpen None number rule = is_inclusion rule ≡ false
IsOpen (Some found) number rule = (is_inclusion rule ≡ false) × (number < found.rule)

-- Each of some rules before a place is met.
abbrev pub AreMet : (ℕ → Rule → Type 0) → List Fact → List Rule → ℕ → Type 0
AreMet P instance rules n =
    (k : ℕ) (other : Rule) → k < n → slice_get rules k ≡ Some other → P k other → MeetsRule itself (FactsOf instance) other

-- A rule with facts is the first broken of some where it is the first of them that is not met, with the least facts that
-- break it.
pub record IsFirstOf (P : ℕ → Rule → Type 0) (instance : List Fact) (rules : List Rule) (broken : Broken) : Type 0 where
  pub rule : Rule
  pub numbered : slice_get rules broken.rule ≡ Some rule
  pub is : P broken.rule rule
  pub before : AreMet P instance rules broken.rule
  pub least : AreLeastBreaking instance rule broken.rows

-- The first broken of some rules was found, and none where each of them is met.
abbrev pub Finds : (ℕ → Rule → Type 0) → List Fact → List Rule → Option Broken → Type 0
Finds P instance rules None = AreMet P instance rules (length rules)
Finds P instance rules (Some broken) = IsFirstOf P instance rules broken
