-- What holds in the middle of a pass.
use Rattle.std.specs.Prelude.{◌≡◌, ℕ, List, Contains, slice_get, Some}
use Rattle.meaning.specs.declared.types.Rule.{Rule}
use Rattle.meaning.specs.declared.types.Ground.{Ground}
use Rattle.meaning.specs.declared.types.Val.TheVariants.{Const}
use Rattle.meaning.specs.Matching.{MeetsRule, GroundsOf}

-- The rules of these numbers are met.
abbrev pub AreMet : List Rule → List Ground → List ℕ → Type 0
AreMet rules facts numbers =
    (number : ℕ) (rule : Rule) → Contains numbers number → slice_get rules number ≡ Some rule →
    MeetsRule Const (GroundsOf facts) rule
