-- The queries of a statement's selects, of which some have none, and the plan of the branches that are chosen for them.
use Rattle.std.specs.Prelude.{◌≡◌, ◌≤◌, ℕ, zero, suc, List, [], ◌∷◌, map, Option, Some, None}
use Rattle.std.specs.List.{AllZip}
use Rattle.meaning.specs.declared.types.Branch.{Branch}
use Rattle.meaning.specs.declared.types.Query.{Query}
use Rattle.meaning.specs.declared.types.SchemaParts.{SchemaParts}
use Rattle.meaning.specs.declared.types.Statement.{Statement}
use Rattle.meaning.specs.Costs.{IsCost}
use Rattle.findings.specs.declared.decision.Chosen.{Chosen as Entry}
use Rattle.findings.specs.declared.decision.Chosen.TheVariants as chosen
use Rattle.findings.specs.declared.decision.Decision.{Decision}
use Rattle.findings.specs.declared.decision.Decision.TheVariants as decision
use Rattle.rule_pass.specs.declared.pass.TheConstants.{MOST_FIRINGS}
use Rattle.sql_select.specs.Statements.{StatementFits}
use Rattle.sql_conjunctive.specs.Queries.{IsSelectForm}
use Rattle.proof_search.specs.declared.outcome.Choice.{Choice}
use Rattle.proof_search.specs.declared.question.Questions.{Questions}
use Rattle.proof_search.specs.Plans.{known_of}

-- The queries of those selects that have one, in order.
abbrev pub queries_in : List (Option Query) → List Query
queries_in [] = []
queries_in (None ∷ forms) = queries_in forms
queries_in (Some query ∷ forms) = query ∷ queries_in forms

-- The number of the select whose query has this number.
abbrev pub place_in : List (Option Query) → ℕ → ℕ
place_in [] number = 0
place_in (None ∷ forms) number = suc (place_in forms number)
place_in (Some query ∷ forms) zero = 0
place_in (Some query ∷ forms) (suc number) = suc (place_in forms number)

-- The questions are those of the statement: its selects have these queries, and the constants are the known ones.
pub record AreAskedFor (statement : Statement) (forms : List (Option Query)) (questions : Questions) : Type 0 where
  pub fits : StatementFits questions.schema.now statement
  pub formed : AllZip (IsSelectForm questions.schema.now) statement.selects forms
  pub queries : questions.queries.now ≡ queries_in forms
  pub known : questions.known.now ≡ known_of questions.schema.now statement
  pub firings : questions.firings ≤ MOST_FIRINGS

-- The branches that are chosen, in order.
abbrev pub branches_in : List Choice → List Branch
branches_in choices = map (λ (choice : Choice). choice.branch) choices

-- The entry says what the branch costs and what is known of that.
abbrev pub IsEntryOf : SchemaParts → Choice → Entry → Type 0
IsEntryOf schema choice chosen.NoRow = ⊥
IsEntryOf schema choice (chosen.Branch cost least) = IsCost schema choice.branch cost × (least ≡ choice.least)

-- There is an entry for each select, in order: one without a row where it has no query, and otherwise that of the next choice.
abbrev pub AreEntriesOf : SchemaParts → List (Option Query) → List Choice → List Entry → Type 0
AreEntriesOf schema [] [] [] = Unit {0}
AreEntriesOf schema (None ∷ forms) choices (chosen.NoRow ∷ entries) = AreEntriesOf schema forms choices entries
AreEntriesOf schema (Some query ∷ forms) (choice ∷ choices) (entry ∷ entries) = IsEntryOf schema choice entry × AreEntriesOf schema forms choices entries
AreEntriesOf _ _ _ _ = ⊥

-- The decision is the plan of that width of the branches that are chosen, with an entry for each select.
abbrev pub IsPlanOf : SchemaParts → ℕ → List (Option Query) → List Choice → Decision → Type 0
IsPlanOf schema width forms choices (decision.Plan plan entries) =
    (plan ≡ record { width = width; branches = branches_in choices }) × AreEntriesOf schema forms choices entries
IsPlanOf schema width forms choices (decision.NoPlan pair) = ⊥
IsPlanOf schema width forms choices (decision.Undecided select log) = ⊥
