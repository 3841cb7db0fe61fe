-- Why a pair does not refute every plan.
use Rattle.std.specs.Prelude.{◌≡◌, ℕ, ◌<◌, List, slice_get, Some}
use Rattle.access_schema.specs.Lists.{once_after}
use Rattle.access_schema.specs.declared.schema.Schema.{Schema}
use Rattle.sql_select.specs.Known.{literals_in}
use Rattle.meaning.specs.declared.types.Rule.{Rule}
use Rattle.meaning.specs.declared.types.SchemaParts.{SchemaParts}
use Rattle.meaning.specs.declared.types.Fact.{Fact}
use Rattle.meaning.specs.declared.types.Statement.{Statement}
use Rattle.meaning.specs.Values.{Value}
use Rattle.meaning.specs.Matching.{MeetsRule, Meets, itself, FactsOf}
use Rattle.meaning.specs.Answers.{Answers}
use Rattle.meaning.specs.Access.{IsAccessible}
use Rattle.findings.specs.declared.refutation.Witness.{Witness}
use Rattle.no_plan_witness.specs.declared.fault.WitnessFault.{WitnessFault}
use Rattle.no_plan_witness.specs.declared.fault.WitnessFault.TheVariants.{NoMemory, RuleBroken, NotIncluded, NotAnswered, StillAnswered}
use Rattle.no_plan_witness.specs.declared.fault.Which.TheVariants.{First, Second}

-- The known constants are those of the schema, and then those of the statement, each once.
abbrev pub known_of : Schema → Statement → List Value
known_of schema statement = once_after schema.constants (literals_in statement.selects)

-- The rule with a number is the first that the facts do not meet.
pub record IsFirstUnmet (schema : SchemaParts) (facts : List Fact) (number : ℕ) : Type 0 where
  pub rule : Rule
  pub numbered : slice_get schema.rules number ≡ Some rule
  pub unmet : MeetsRule itself (FactsOf facts) rule → ⊥
  pub before : (k : ℕ) (other : Rule) → k < number → slice_get schema.rules k ≡ Some other →
      MeetsRule itself (FactsOf facts) other

-- What is accessible of the first facts is accessible of the second.
abbrev pub IsIncluded : SchemaParts → List Value → List Fact → List Fact → Type 0
IsIncluded schema constants first second =
    (fact : Fact) → IsAccessible schema constants first fact → IsAccessible schema constants second fact

-- A fact is the first of the first facts that is accessible there and not of the second.
pub record IsFirstMissing (schema : SchemaParts) (constants : List Value) (first second : List Fact)
    (fact : Fact) : Type 0 where
  pub place : ℕ
  pub there : slice_get first place ≡ Some fact
  pub accessible : IsAccessible schema constants first fact
  pub missing : IsAccessible schema constants second fact → ⊥
  pub before : (k : ℕ) (other : Fact) → k < place → slice_get first k ≡ Some other →
      IsAccessible schema constants first other → IsAccessible schema constants second other

-- Both instances of a pair meet the rules.
abbrev pub BothMeet : SchemaParts → Witness → Type 0
BothMeet schema pair = Meets pair.first schema × Meets pair.second schema

-- A fault says which part of a refutation a pair fails first: the rules on the first and on the second instance, the
-- inclusion of the accessible parts, the answer on the first and its lack on the second.
abbrev pub IsFault : SchemaParts → List Value → Statement → Witness → WitnessFault → Type 0
IsFault schema constants statement pair NoMemory = Unit {0}
IsFault schema constants statement pair (RuleBroken number First) = IsFirstUnmet schema pair.first number
IsFault schema constants statement pair (RuleBroken number Second) =
    Meets pair.first schema × IsFirstUnmet schema pair.second number
IsFault schema constants statement pair (NotIncluded fact) =
    BothMeet schema pair × IsFirstMissing schema constants pair.first pair.second fact
IsFault schema constants statement pair NotAnswered =
    BothMeet schema pair × IsIncluded schema constants pair.first pair.second × (Answers statement pair.first pair.answer → ⊥)
IsFault schema constants statement pair StillAnswered =
    BothMeet schema pair × IsIncluded schema constants pair.first pair.second × Answers statement pair.first pair.answer
    × Answers statement pair.second pair.answer
