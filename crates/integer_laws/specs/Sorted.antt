-- Facts, rules and names that keep to sorts: what stands at an integer column is an integer.
use Rattle.std.specs.Prelude.{◌≡◌, ℕ, List, Some, Contains, slice_get}
use Rattle.meaning.specs.declared.types.Rule.{Rule}
use Rattle.meaning.specs.declared.types.SchemaParts.{SchemaParts}
use Rattle.meaning.specs.declared.types.Fact.{Fact}
use Rattle.meaning.specs.declared.types.Ground.{Ground}
use Rattle.meaning.specs.declared.types.Val.TheVariants.{Const, Label}
use Rattle.meaning.specs.Values.{Value}
use Rattle.meaning.specs.Integers.{IsInteger}
use Rattle.meaning.specs.Sorts.{HoldsIntegers, AreSorted, RuleIsSorted}
use Rattle.meaning.specs.Matching.{itself}
use Rattle.meaning.specs.Runs.{Proof}

-- Facts of an instance are sorted where each value at an integer column is an integer.
abbrev pub AreSortedFacts : SchemaParts → List Fact → Type 0
AreSortedFacts schema facts = (fact : Fact) → Contains facts fact → AreSorted itself schema fact.rel fact.row

-- Labelled facts are sorted where each constant at an integer column is an integer. A label has no sort.
abbrev pub AreSortedGrounds : SchemaParts → List Ground → Type 0
AreSortedGrounds schema facts = (fact : Ground) → Contains facts fact → AreSorted Const schema fact.rel fact.vals

-- Each label at an integer column of one of the facts is named by an integer.
abbrev pub NamesIntegers : SchemaParts → List Ground → (ℕ → Value) → Type 0
NamesIntegers schema facts h =
    (fact : Ground) (place k : ℕ) → Contains facts fact → HoldsIntegers schema fact.rel place →
    slice_get fact.vals place ≡ Some (Label k) → IsInteger (h k)

-- Each rule of the schema is sorted.
abbrev pub AreSortedRules : SchemaParts → Type 0
AreSortedRules schema = (rule : Rule) → Contains schema.rules rule → RuleIsSorted schema rule

-- A proof is sorted where its base facts, its exposed facts and its copy facts are.
pub record ProofIsSorted (schema : SchemaParts) (proof : Proof) : Type 0 where
  pub base : AreSortedGrounds schema proof.base
  pub exposed : AreSortedGrounds schema proof.exposed
  pub copy : AreSortedGrounds schema proof.copy
