-- The order in which rules that are not recursive are gone through: by level, and then by number.
use Rattle.std.specs.Prelude.{◌≡◌, ◌⊎◌, ℕ, ◌<◌, ◌≤◌, suc, zero, List, Contains, slice_get, Some}
use Rattle.meaning.specs.declared.types.Atom.{Atom}
use Rattle.meaning.specs.declared.types.Rule.{Rule}

-- A relation feeds another where some rule has the one in its body and the other in its head.
pub record Feeds (rules : List Rule) (source target : ℕ) : Type 0 where
  pub rule : Rule
  pub body : Atom
  pub head : Atom
  pub of_rules : Contains rules rule
  pub in_body : Contains rule.body body
  pub in_head : Contains rule.head head
  pub reads : body.rel ≡ source
  pub makes : head.rel ≡ target

-- A relation is fed over n steps where a chain of n feeding steps ends at it.
abbrev pub IsFed : List Rule → ℕ → ℕ → Type 0
IsFed rules rel zero = Unit {0}
IsFed rules rel (suc n) = (source : ℕ) × Feeds rules source rel × IsFed rules source n

-- The level of a relation is the greatest number of feeding steps that end at it.
pub record IsLevel (rules : List Rule) (rel level : ℕ) : Type 0 where
  pub reached : IsFed rules rel level
  pub greatest : (n : ℕ) → IsFed rules rel n → n ≤ level

-- The level of a rule is the greatest level of a relation in its body.
pub record IsRuleLevel (rules : List Rule) (rule : Rule) (level : ℕ) : Type 0 where
  pub reached : (atom : Atom) × Contains rule.body atom × IsLevel rules atom.rel level
  pub greatest : (atom : Atom) (n : ℕ) → Contains rule.body atom → IsLevel rules atom.rel n → n ≤ level

-- Rule i stands before rule j where its level is less, or the levels are equal and its number is less.
pub record StandsBefore (rules : List Rule) (i j : ℕ) : Type 0 where
  pub first : Rule
  pub second : Rule
  pub low : ℕ
  pub high : ℕ
  pub first_is : slice_get rules i ≡ Some first
  pub second_is : slice_get rules j ≡ Some second
  pub first_level : IsRuleLevel rules first low
  pub second_level : IsRuleLevel rules second high
  pub before : (low < high) ⊎ ((low ≡ high) × (i < j))
