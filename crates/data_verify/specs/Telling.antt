-- What is told of a verification.
use Rattle.std.specs.Prelude.{◌++◌, ℕ, List, [], codes, slice_get, Option, Some, None}
use Rattle.std.specs.Fmt.{decimal}
use Rattle.meaning.specs.declared.types.Rule.{Rule}
use Rattle.meaning.specs.declared.types.Relation.{Relation}
use Rattle.meaning.specs.declared.types.Fact.{Fact}
use Rattle.access_schema.specs.declared.schema.Schema.{Schema}
use Rattle.pq_text.specs.Printing.{printed_name, printed_value}
use Rattle.pq_text.specs.Listed.{listed}
use Rattle.data_verify.specs.declared.broken.Broken.{Broken}

-- A relation is named as a name is printed, and one that is not there has no text.
abbrev pub name_text : Option Relation → List ℕ
name_text None = []
name_text (Some relation) = printed_name relation.name

-- A fact is its relation's name with its values in parentheses.
abbrev pub fact_text : List Relation → Fact → List ℕ
fact_text relations fact =
    name_text (slice_get relations fact.rel) ++ codes "(" ++ listed printed_value fact.row ++ codes ")"

-- The line of a rule in the schema's text, and 0 where there is no such rule.
abbrev pub line_of : Option Rule → ℕ
line_of None = 0
line_of (Some rule) = rule.line

-- The line of the rule with the facts that break it.
abbrev pub broken_text : Schema → Broken → List ℕ
broken_text schema broken =
    codes "rule on line " ++ decimal (line_of (slice_get schema.rules broken.rule))
    ++ codes " is not met by " ++ listed (fact_text schema.relations) broken.rows

-- One line on all rules, or on the first that is not met.
abbrev pub verification_text : Schema → Option Broken → List ℕ
verification_text schema None = codes "all rules are met\n"
verification_text schema (Some broken) = broken_text schema broken ++ codes "\n"
