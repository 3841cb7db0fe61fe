-- Where no column holds integers, all is sorted. Crates above cite these lemmas.
use Rattle.std.proofs.Common.{◌≡◌, ◌++◌, ℕ, List}
use Rattle.std.specs.Prelude.{Contains}
use Rattle.meaning.specs.declared.types.Relation.{Relation}
use Rattle.meaning.specs.declared.types.Rule.{Rule}
use Rattle.meaning.specs.declared.types.Sort.TheVariants.{Int}
use Rattle.meaning.specs.declared.types.SchemaParts.{SchemaParts}
use Rattle.meaning.specs.Values.{Value}
use Rattle.meaning.specs.Sorts.{HoldsIntegers, AreSorted, RuleIsSorted}
use Rattle.lists.proofs.Members.{contains_got}

module _ (schema : SchemaParts) (texts : (relation : Relation) → Contains schema.relations relation → Contains relation.sorts Int → ⊥) where
  pub text_alone : (rel place : ℕ) → HoldsIntegers schema rel place → ⊥
  text_alone rel place (relation, at, int) = texts relation (contains_got schema.relations rel relation at) (contains_got relation.sorts place Int int)

  pub texts_are_sorted : {V : Type 0} (known : Value → V) (rel : ℕ) (members : List V) → AreSorted known schema rel members
  texts_are_sorted known rel members place c holds at = absurd (text_alone rel place holds)

  pub texts_sort_rules : (rule : Rule) → RuleIsSorted schema rule
  texts_sort_rules rule = record {
    constants = λ atom there place c holds at. absurd (text_alone atom.rel place holds);
    variables = λ x p q one other in_one in_other at_one at_other holds. absurd (text_alone one.rel p holds);
  }
