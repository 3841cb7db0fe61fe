-- How what is decided of a statement is printed.
use Rattle.std.specs.Prelude.{◌≡◌, ◌++◌, ◌+◌, ◌-◌, ℕ, List, [], ◌∷◌, Option, None, Some, map, length, flat_map, slice_get, codes}
use Rattle.std.specs.List.{range_with_len}
use Rattle.std.specs.Fmt.{decimal}
use Rattle.pq_text.specs.Printing.{printed_name, printed_value}
use Rattle.pq_text.specs.Listed.{listed}
use Rattle.meaning.specs.declared.types.Relation.{Relation}
use Rattle.meaning.specs.declared.types.Method.{Method}
use Rattle.meaning.specs.declared.types.Rule.{Rule}
use Rattle.meaning.specs.declared.types.Plan.{Plan as PlanOf}
use Rattle.meaning.specs.declared.types.Val.{Val}
use Rattle.meaning.specs.declared.types.Val.TheVariants.{Const, Label}
use Rattle.meaning.specs.declared.types.Ground.{Ground}
use Rattle.meaning.specs.declared.types.Trigger.{Trigger}
use Rattle.meaning.specs.declared.types.Firing.{Firing}
use Rattle.meaning.specs.declared.types.Firing.TheVariants.{Base, Copy, Expose}
use Rattle.meaning.specs.Triggers.{bound}
use Rattle.fact_lines.specs.Lines.{fact_text, IsListing}
use Rattle.access_schema.specs.declared.schema.Schema.{Schema}
use Rattle.plan_form.specs.Printing.{plan_text}
use Rattle.findings.specs.declared.refutation.Witness.{Witness}
use Rattle.findings.specs.declared.least.Least.{Least}
use Rattle.findings.specs.declared.least.Least.TheVariants.{Shown, SearchSpent, FiringsSpent}
use Rattle.findings.specs.declared.decision.Chosen.{Chosen}
use Rattle.findings.specs.declared.decision.Chosen.TheVariants.{NoRow, Branch}
use Rattle.findings.specs.declared.decision.Decision.{Decision}
use Rattle.findings.specs.declared.decision.Decision.TheVariants.{Plan, NoPlan, Undecided}

-- ---- refutations

-- the text of a pair: the answer, and the facts of both instances as they stand
abbrev pub pair_text : List Relation → Witness → List ℕ
pair_text relations pair =
    codes "no plan\nanswer " ++ listed printed_value pair.answer ++ codes "\nfirst\n" ++ flat_map (fact_text relations) pair.first
    ++ codes "second\n" ++ flat_map (fact_text relations) pair.second ++ codes "end\n"

-- The pair with its facts each once and in ascending order.
pub record IsOrdered (pair ordered : Witness) : Type 0 where
  pub first : IsListing pair.first ordered.first
  pub second : IsListing pair.second ordered.second
  pub answer : ordered.answer ≡ pair.answer

-- The text is that of the pair with its facts in order.
pub record IsPrintedWitness (schema : Schema) (pair : Witness) (text : List ℕ) : Type 0 where
  pub ordered : Witness
  pub is_ordered : IsOrdered pair ordered
  pub text_is : text ≡ pair_text schema.relations ordered

-- ---- firings

-- a constant in quotes, and a label as a number sign and its number
abbrev pub val_text : Val → List ℕ
val_text (Const text) = printed_value text
val_text (Label label) = codes "#" ++ decimal label

-- how many existential variables a rule has, and none for a rule that is not there
abbrev pub existentials : Option Rule → ℕ
existentials None = 0
existentials (Some rule) = bound rule.head - bound rule.body

-- the new labels of a trigger, in order
abbrev pub new_labels : List Rule → Trigger → List Val
new_labels rules trigger = map Label (range_with_len trigger.fresh (existentials (slice_get rules trigger.rule)))

-- labels behind an arrow, and no arrow where there are none
abbrev pub arrow_text : List Val → List ℕ
arrow_text [] = []
arrow_text (label ∷ labels) = codes " -> " ++ listed val_text (label ∷ labels)

-- R: VALUE, .. -> LABEL, .. with the number of the rule counted from 1
abbrev pub trigger_text : List Rule → Trigger → List ℕ
trigger_text rules trigger =
    decimal (trigger.rule + 1) ++ codes ": " ++ listed val_text trigger.values ++ arrow_text (new_labels rules trigger) ++ codes "\n"

-- the printed name of a method, and nothing for a method that is not there
abbrev pub method_text : Option Method → List ℕ
method_text None = []
method_text (Some method) = printed_name method.name

-- the line of an exposure
abbrev pub exposure_text : List Method → ℕ → Ground → List ℕ
exposure_text methods method fact = codes "expose " ++ method_text (slice_get methods method) ++ codes "(" ++ listed val_text fact.vals ++ codes ")\n"

-- the line of a firing
abbrev pub firing_text : List Rule → List Method → Firing → List ℕ
firing_text rules methods (Base trigger) = codes "base " ++ trigger_text rules trigger
firing_text rules methods (Copy trigger) = codes "copy " ++ trigger_text rules trigger
firing_text rules methods (Expose method fact) = exposure_text methods method fact

-- how many firings were spent, and the number of the select counted from 1
abbrev pub opening_text : ℕ → ℕ → List ℕ
opening_text count select = codes "undecided after " ++ decimal count ++ codes " firings\nselect " ++ decimal (select + 1) ++ codes "\n"

-- the text of a select that is not decided: the opening, and the firings in order
abbrev pub undecided_text : Schema → ℕ → List Firing → List ℕ
undecided_text schema select log = opening_text (length log) select ++ flat_map (firing_text schema.rules schema.methods) log ++ codes "end\n"

-- ---- plans

-- what is said of the cost of a branch
abbrev pub least_text : Least → List ℕ
least_text Shown = codes "least"
least_text (SearchSpent units) = codes "search spent after " ++ decimal units
least_text (FiringsSpent firings) = codes "firings spent after " ++ decimal firings

-- what is said of a select
abbrev pub entry_text : Chosen → List ℕ
entry_text NoRow = codes " no row"
entry_text (Branch cost least) = codes " cost " ++ decimal cost ++ codes " " ++ least_text least

-- the comment line of a select, by its number counted from 1
abbrev pub entry_line : ℕ → Chosen → List ℕ
entry_line number entry = codes "# select " ++ decimal number ++ entry_text entry ++ codes "\n"

-- the comment lines of selects, from a number on
abbrev pub entry_lines : ℕ → List Chosen → List ℕ
entry_lines number [] = []
entry_lines number (entry ∷ entries) = entry_line number entry ++ entry_lines (number + 1) entries

-- the text of a plan behind a comment line for each select
abbrev pub planned_text : List Chosen → PlanOf → List ℕ
planned_text entries plan = entry_lines 1 entries ++ plan_text plan

-- ---- decisions

-- The text is that of the plan and of what was chosen, of the refutation, or of the firings that were spent.
abbrev pub IsDecisionText : Schema → Decision → List ℕ → Type 0
IsDecisionText schema (Plan plan entries) text = text ≡ planned_text entries plan
IsDecisionText schema (NoPlan pair) text = IsPrintedWitness schema pair text
IsDecisionText schema (Undecided select log) text = text ≡ undecided_text schema select log
