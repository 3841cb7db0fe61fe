-- Free texts up to a number, which the search for them has come to.
use Rattle.std.specs.Prelude.{◌≡◌, ◌⊎◌, ℕ, ◌≤◌, List, Contains, map}
use Rattle.std.specs.List.Sorted.{IsStrictlyIncreasing}
use Rattle.meaning.specs.declared.types.Sort.{Sort}
use Rattle.meaning.specs.Values.{Value}
use Rattle.no_plan_witness.specs.Texts.{numbered_text}

-- Texts are the free ones up to a number where they are those of the numbers from 1 to it that are no constants.
pub record AreFreeUpTo (sort : Sort) (constants : List Value) (last : ℕ) (texts : List Value) : Type 0 where
  pub numbers : List ℕ
  pub texts_are : texts ≡ map (numbered_text sort) numbers
  pub ascend : IsStrictlyIncreasing numbers
  pub counted : (number : ℕ) → Contains numbers number → (1 ≤ number) × (number ≤ last)
  pub free : (number : ℕ) → Contains numbers number → Contains constants (numbered_text sort number) → ⊥
  pub passed : (other : ℕ) → 1 ≤ other → other ≤ last → Contains numbers other ⊎ Contains constants (numbered_text sort other)
