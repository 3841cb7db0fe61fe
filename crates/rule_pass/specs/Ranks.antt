-- The numbers of rules with their levels.
use Rattle.std.specs.Prelude.{◌≡◌, ℕ, List, Contains, length, map, slice_get, Some}
use Rattle.std.specs.List.{range_with_len}
use Rattle.meaning.specs.declared.types.Rule.{Rule}
use Rattle.rule_pass.specs.declared.order.Ranked.{Ranked}
use Rattle.rule_pass.specs.Levels.{greatest_level}

-- The list has the number of each rule, in order, with the greatest entry of the table at a relation of its body.
pub record AreRanked (rules : List Rule) (levels : List ℕ) (ranked : List Ranked) : Type 0 where
  pub numbers : map (λ (one : Ranked). one.number) ranked ≡ range_with_len 0 (length rules)
  pub level : (one : Ranked) → Contains ranked one →
      (rule : Rule) × (slice_get rules one.number ≡ Some rule) × (one.level ≡ greatest_level levels rule.body)
