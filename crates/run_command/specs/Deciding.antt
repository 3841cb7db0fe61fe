-- What is decided of a statement, and what the text of a decision shows.
use Rattle.std.specs.Prelude.{◌≡◌, ◌⊎◌, ℕ, List, Option}
use Rattle.std.specs.Str.{IsUtf8}
use Rattle.meaning.specs.declared.types.Statement.{Statement}
use Rattle.meaning.specs.declared.types.Plan.{Plan as PlanOf}
use Rattle.meaning.specs.declared.types.Firing.{Firing}
use Rattle.access_schema.specs.declared.schema.Schema.{Schema}
use Rattle.plan_form.specs.Fitting.{PlanFits}
use Rattle.plan_form.specs.Grammar.{IsPlanText}
use Rattle.findings.specs.declared.refutation.Witness.{Witness}
use Rattle.findings.specs.declared.decision.Chosen.{Chosen}
use Rattle.findings.specs.declared.decision.Decision.{Decision}
use Rattle.findings.specs.declared.decision.Decision.TheVariants.{Plan, NoPlan, Undecided}
use Rattle.proof_search.specs.Plans.{IsPlanFor}
use Rattle.proof_search.specs.Chosen.{AreChosen}
use Rattle.proof_search.specs.Decisions.{IsRefutation, IsUndecided}
use Rattle.explain.specs.Printing.{IsPrintedWitness, IsDecisionText, planned_text, undecided_text}
use Rattle.explain.specs.Grammar.{IsWitnessText}
use Rattle.command_io.specs.declared.outcome.Outcome.{Outcome}
use Rattle.command_io.specs.declared.outcome.Outcome.TheVariants as outcome
use Rattle.command_io.specs.Writing.{TookAll, TookPart}

-- The plan is one for the statement and within the limits of plan texts; what is said of each select is so, of the cost
-- of its branch and of its rivals on instances of integers; and the text of both reads as the plan.
pub record IsPlanned (schema : Schema) (statement : Statement) (firings search : ℕ) (plan : PlanOf) (entries : List Chosen) : Type 0 where
  pub is : IsPlanFor schema statement plan
  pub fits : PlanFits plan
  pub chosen : AreChosen schema statement firings search statement.selects plan.branches entries
  pub reads : IsPlanText (planned_text entries plan) plan

-- A decision is right: a plan is one for the statement and can be written, and what is said of each select is so; a pair refutes; and a
-- log is one of spent firings.
pub data IsDecided (schema : Schema) (statement : Statement) (firings search : ℕ) : Decision → Type 0 where
  plan : (plan : PlanOf) (entries : List Chosen) → IsPlanFor schema statement plan → PlanFits plan →
      AreChosen schema statement firings search statement.selects plan.branches entries → IsDecided schema statement firings search (Plan plan entries)
  no_plan : (pair : Witness) → IsRefutation schema statement firings pair → IsDecided schema statement firings search (NoPlan pair)
  undecided : (select : ℕ) (log : List Firing) → IsUndecided schema statement firings select log →
      IsDecided schema statement firings search (Undecided select log)

-- The text is that of two instances of integers and a row, with the facts of each instance once and in ascending order,
-- and reads as them. They refute by the first select that does, so that no lawful plan is equivalent to the statement
-- on every instance of integers that meets the rules.
pub record IsRefuted (schema : Schema) (statement : Statement) (firings : ℕ) (text : List ℕ) : Type 0 where
  pub pair : Witness
  pub printed : IsPrintedWitness schema pair text
  pub reads : IsWitnessText schema text pair
  pub refutes : IsRefutation schema statement firings pair

-- What the text of a decision shows, by the outcome: it reads as a plan for the statement, and says what is so of each select; it is that
-- of a refutation; or it is that of spent firings.
pub data Shows (schema : Schema) (statement : Statement) (firings search : ℕ) (text : List ℕ) : Outcome → Type 0 where
  plan : (plan : PlanOf) (entries : List Chosen) → IsPlanned schema statement firings search plan entries → text ≡ planned_text entries plan →
      Shows schema statement firings search text outcome.Done
  no_plan : IsRefuted schema statement firings text → Shows schema statement firings search text outcome.No
  undecided : (select : ℕ) (log : List Firing) → IsUndecided schema statement firings select log →
      text ≡ undecided_text schema select log → Shows schema statement firings search text outcome.Undecided

-- Nothing was taken, or a first part of one of these texts that is not all of it.
abbrev pub TookPartOf : Option (List ℕ) → Option (List ℕ) → (List ℕ → Type 0) → Type 0
TookPartOf old new IsText = (new ≡ old) ⊎ ((text : List ℕ) × IsText text × TookPart old new text)

-- The text of the decision was taken whole, and it is UTF-8.
pub record Written (schema : Schema) (decision : Decision) (old new : Option (List ℕ)) : Type 0 where
  pub text : List ℕ
  pub is : IsDecisionText schema decision text
  pub utf8 : IsUtf8 text
  pub took : TookAll old new text

-- The outcome of a decision: done with a plan, no with a refutation, undecided with the log of spent firings.
abbrev pub outcome_of : Decision → Outcome
outcome_of (Plan found entries) = outcome.Done
outcome_of (NoPlan pair) = outcome.No
outcome_of (Undecided select log) = outcome.Undecided
