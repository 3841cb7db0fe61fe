-- What makes a plan one for a statement, and that it has none.
use Rattle.std.specs.Prelude.{◌≡◌, ◌≤◌, List, Contains, length}
use Rattle.meaning.specs.declared.types.Branch.{Branch}
use Rattle.meaning.specs.declared.types.Plan.{Plan}
use Rattle.meaning.specs.declared.types.Select.{Select}
use Rattle.meaning.specs.declared.types.Statement.{Statement}
use Rattle.meaning.specs.Values.{Value}
use Rattle.meaning.specs.Plans.{IsLawful}
use Rattle.meaning.specs.Claims.{IsEquivalent}
use Rattle.access_schema.specs.declared.schema.Schema.{Schema}
use Rattle.access_schema.specs.Meaning.{meaning_of}
use Rattle.access_schema.specs.Lists.{once_after}
use Rattle.integer_laws.specs.Claimed.{IsSortedEquivalent}
use Rattle.sql_select.specs.Known.{literals_in}
use Rattle.rule_pass.specs.declared.pass.TheConstants.{MOST_FIRINGS}

-- The known constants: those of the schema, which hold those of its rules, and those of the statement.
abbrev pub known_of : Schema → Statement → List Value
known_of schema statement = once_after schema.constants (literals_in statement.selects)

-- The plan calls each method with known constants or received values alone, is as wide as each select of the statement, and has
-- the statement's answers on every instance that meets the rules.
pub record IsPlanFor (schema : Schema) (statement : Statement) (plan : Plan) : Type 0 where
  pub lawful : IsLawful plan (meaning_of schema) (known_of schema statement)
  pub wide : (select : Select) → Contains statement.selects select → plan.width ≡ length select.items
  pub equivalent : IsEquivalent plan statement (meaning_of schema)

-- The plan has at most as many branches as a statement has selects, and each has at most a step for each firing of a proof.
pub record HasFewSteps (plan : Plan) : Type 0 where
  pub branches : length plan.branches ≤ 16
  pub steps : (branch : Branch) → Contains plan.branches branch → length branch.steps ≤ MOST_FIRINGS

-- No lawful plan over the known constants is equivalent to the statement on the instances of integers that meet the rules.
abbrev pub HasNoPlan : Schema → Statement → Type 0
HasNoPlan schema statement =
    (plan : Plan) → IsLawful plan (meaning_of schema) (known_of schema statement) →
    IsSortedEquivalent plan statement (meaning_of schema) → ⊥
