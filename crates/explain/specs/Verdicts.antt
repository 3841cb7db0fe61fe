-- How what is found of a plan is printed.
use Rattle.std.specs.Prelude.{◌≡◌, ◌++◌, ◌+◌, ℕ, List, length, flat_map, codes}
use Rattle.std.specs.Fmt.{decimal}
use Rattle.pq_text.specs.Printing.{printed_value}
use Rattle.pq_text.specs.Listed.{listed}
use Rattle.meaning.specs.declared.types.Relation.{Relation}
use Rattle.meaning.specs.declared.types.Rule.{Rule}
use Rattle.meaning.specs.declared.types.Fact.{Fact}
use Rattle.meaning.specs.declared.types.Trigger.{Trigger}
use Rattle.access_schema.specs.declared.schema.Schema.{Schema}
use Rattle.plan_form.specs.Printing.{illegal_text}
use Rattle.findings.specs.declared.verdict.Side.{Side}
use Rattle.findings.specs.declared.verdict.Side.TheVariants as side
use Rattle.findings.specs.declared.verdict.Verdict.{Verdict}
use Rattle.findings.specs.declared.verdict.Verdict.TheVariants as verdict
use Rattle.fact_lines.specs.Lines.{fact_text, IsListing}
use Rattle.explain.specs.Printing.{trigger_text}

-- a word and a row, and the facts of an instance as they stand
abbrev pub separation_text : List Relation → List ℕ → List (List ℕ) → List Fact → List ℕ
separation_text relations word row facts =
    word ++ listed printed_value row ++ codes "\ninstance\n" ++ flat_map (fact_text relations) facts ++ codes "end\n"

-- The text is that of the row and the instance, with its facts each once and in ascending order.
pub record IsPrintedSeparation (schema : Schema) (word : List ℕ) (facts : List Fact) (row : List (List ℕ)) (text : List ℕ) : Type 0 where
  pub listing : List Fact
  pub is_listing : IsListing facts listing
  pub text_is : text ≡ separation_text schema.relations word row listing

-- the side that was tried, by its number counted from 1
abbrev pub side_text : Side → List ℕ
side_text (side.Select number) = codes "select " ++ decimal (number + 1) ++ codes "\n"
side_text (side.Branch number) = codes "branch " ++ decimal (number + 1) ++ codes "\n"

-- the line of a firing
abbrev pub base_text : List Rule → Trigger → List ℕ
base_text rules trigger = codes "base " ++ trigger_text rules trigger

-- how many firings were spent
abbrev pub count_text : ℕ → List ℕ
count_text count = codes "undecided after " ++ decimal count ++ codes " firings\n"

-- how many firings were spent, the side that was tried, and the firings in order
abbrev pub spent_text : Schema → Side → List Trigger → List ℕ
spent_text schema tried log =
    count_text (length log) ++ side_text tried ++ flat_map (base_text schema.rules) log ++ codes "end\n"

-- The text is the word for a plan that is equivalent, the line of its fault, the row and the instance that separate, or the firings that
-- were spent.
abbrev pub IsVerdictText : Schema → Verdict → List ℕ → Type 0
IsVerdictText schema verdict.Equivalent text = text ≡ codes "equivalent\n"
IsVerdictText schema (verdict.Illegal fault) text = text ≡ illegal_text fault
IsVerdictText schema (verdict.Loses facts row) text = IsPrintedSeparation schema (codes "loses ") facts row text
IsVerdictText schema (verdict.Adds facts row) text = IsPrintedSeparation schema (codes "adds ") facts row text
IsVerdictText schema (verdict.Undecided tried log) text = text ≡ spent_text schema tried log
