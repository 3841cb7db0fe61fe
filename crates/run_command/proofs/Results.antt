-- What was decided of a statement, and what the text of an execution says of it.
use Rattle.std.proofs.Common.{◌≡◌, ◌↔◌, ℕ, List, Option, Result, Ok, Err, Bool, true, false, subst}
use Rattle.std.specs.Prelude.{Contains}
use Rattle.meaning.specs.declared.types.Fact.{Fact}
use Rattle.meaning.specs.declared.types.Statement.{Statement}
use Rattle.meaning.specs.declared.types.Plan.{Plan}
use Rattle.meaning.specs.Rows.{IsRow}
use Rattle.meaning.specs.Answers.{Answers}
use Rattle.meaning.specs.Claims.{IsModel}
use Rattle.access_schema.specs.declared.schema.Schema.{Schema}
use Rattle.access_schema.specs.Meaning.{meaning_of}
use Rattle.source_trait.specs.Asking.{Seen}
use Rattle.source_trait.specs.Causes.{Rose}
use Rattle.source_trait.specs.declared.lanes.Lane.{Lane}
use Rattle.row_text.specs.RowText.{IsRowText}
use Rattle.row_text.proofs.Texts.{IsRowText-alike}
use Rattle.middleware.specs.declared.fault.Run.{Run}
use Rattle.middleware.specs.LaneBranches.{LanesHoldPlan}
use Rattle.rule_rows.specs.Executing.RunsVerified.{ran}
use Rattle.command_io.specs.declared.stop.Stop.{Stop}
use Rattle.command_io.specs.FaultLines.{Names}
use Rattle.command_io.specs.Moments.{Outputs}
use Rattle.command_io.specs.Writing.{TookAll}
use Rattle.command_io.specs.Executing.{Delivers}
use Rattle.command_io.proofs.Delivering.{delivers_as}
use Rattle.command_io.specs.Reports.{summary}
use Rattle.sql_select.specs.Statements.{result_names}
use Rattle.command_io.specs.declared.outcome.Outcome.{Outcome}
use Rattle.command_io.specs.declared.outcome.Outcome.TheVariants as outcome
use Rattle.std.specs.Str.{IsUtf8}
use Rattle.meaning.specs.declared.types.Firing.{Firing}
use Rattle.sql_select.specs.Statements.{StatementFits}
use Rattle.plan_form.specs.Fitting.{PlanFits}
use Rattle.findings.specs.declared.refutation.Witness.{Witness}
use Rattle.findings.specs.declared.decision.Chosen.{Chosen}
use Rattle.findings.specs.declared.decision.Decision.{Decision}
use Rattle.explain.specs.Printing.{planned_text}
use Rattle.findings.specs.declared.decision.Decision.TheVariants.{Plan as Planned, NoPlan, Undecided}
use Rattle.proof_search.specs.Plans.{IsPlanFor}
use Rattle.run_command.specs.Deciding.{IsPlanned, IsDecided, Written}
use Rattle.run_command.specs.Deciding.IsDecided.{plan as right_plan, no_plan as right_pair, undecided as right_log}
use Rattle.run_command.proofs.RightDecisions.{planned, refuted as refutation_told}
use Rattle.run_command.specs.Ends.{IsResult, carries_out, StatementEnds}
use Rattle.run_command.specs.World.{IsSummary}
use Rattle.run_command.specs.Ends.StatementEnds.{no_decision, untold, refuted, undecided, stopped, done}

-- the rows of an execution are the plan's on whatever instance the lanes hold
abbrev pub AreRows : {S : Type 0} → (S → Seen) → Schema → Plan → List (Lane S) → Run → Type 0
AreRows seen schema plan lanes run = (instance : List Fact) → LanesHoldPlan seen schema plan lanes instance →
    (row : List (List ℕ)) → Contains run.rows row ↔ IsRow (meaning_of schema) plan instance row

-- so it is whether the rules were tested before it or not
pub rows_of : {S : Type 0} (seen : S → Seen) (schema : Schema) (calls : ℕ) (verify : Bool) (plan : Plan) (old new : List (Lane S)) (run : Run) →
    carries_out seen schema calls verify old new plan (Ok run) → AreRows seen schema plan new run
rows_of seen schema calls false plan old new run executes = executes.rows
rows_of seen schema calls true plan old new run (ran middle its verified executes) = executes.rows

module _ {S : Type 0} (seen : S → Seen) (schema : Schema) (statement : Statement) (firings search : ℕ) (plan : Plan) (entries : List Chosen) (is : IsPlanned schema statement firings search plan entries) (new : List (Lane S)) where
  -- the text of the rows is the result
  pub result_of : (columns : List (List ℕ)) → result_names statement.selects ≡ columns → (run : Run) (text : List ℕ) → AreRows seen schema plan new run →
      IsRowText columns (Contains run.rows) text → IsResult seen schema statement new plan run text
  result_of columns named run text same of_rows = record { given = rw named of_rows; rows = rows; answers = answers }
    where
      rows : (instance : List Fact) → LanesHoldPlan seen schema plan new instance → IsRowText (result_names statement.selects) (IsRow (meaning_of schema) plan instance) text
      rows instance holds = rw named (IsRowText-alike columns (Contains run.rows) (IsRow (meaning_of schema) plan instance) text (same instance holds) of_rows)

      answers : (instance : List Fact) → LanesHoldPlan seen schema plan new instance → IsModel (meaning_of schema) instance → IsRowText (result_names statement.selects) (Answers statement instance) text
      answers instance holds model = IsRowText-alike (result_names statement.selects) (IsRow (meaning_of schema) plan instance) (Answers statement instance) text
          (λ row. (is.is.equivalent.sound instance row model, is.is.equivalent.complete instance row model)) (rows instance holds)

  -- the summary of an execution is the result of a world
  pub summary_of : (size : ℕ) (run : Run) (text : List ℕ) → AreRows seen schema plan new run → text ≡ summary size run.made run.rows → IsSummary seen size schema statement new plan run text
  summary_of size run text same given = record {
    given = given;
    rows = same;
    answers = λ instance holds model row.
        let its = same instance holds row in
        (λ among. is.is.equivalent.sound instance row model (its.0 among), λ answer. its.1 (is.is.equivalent.complete instance row model answer));
  }

-- where the decision was written whole, what it shows was
module _ (schema : Schema) (statement : Statement) (firings search : ℕ) (decision : Decision)
    (right : IsDecided schema statement firings search decision) where
  -- a plan is one for the statement, and can be written
  pub plan_of : (plan : Plan) (entries : List Chosen) → decision ≡ Planned plan entries → IsPlanFor schema statement plan × PlanFits plan
  plan_of plan entries is = go (subst (IsDecided schema statement firings search) is right)
    where
      go : IsDecided schema statement firings search (Planned plan entries) → IsPlanFor schema statement plan × PlanFits plan
      go (right_plan of its for can chosen) = (for, can)

  -- and its text was written
  pub plan_told : (plan : Plan) (entries : List Chosen) (old new : Option (List ℕ)) → decision ≡ Planned plan entries → Written schema decision old new →
      IsPlanned schema statement firings search plan entries × TookAll old new (planned_text entries plan)
  plan_told plan entries old new is written = go (subst (IsDecided schema statement firings search) is right) (subst (λ d. Written schema d old new) is written)
    where
      go : IsDecided schema statement firings search (Planned plan entries) → Written schema (Planned plan entries) old new →
          IsPlanned schema statement firings search plan entries × TookAll old new (planned_text entries plan)
      go (right_plan of its for can chosen) told = (planned schema statement firings search plan entries for can chosen (subst IsUtf8 told.is told.utf8), subst (TookAll old new) told.is told.took)

  module _ {S : Type 0} (fits : StatementFits schema statement) (Ran : Plan → Result Run Stop → Type 0) (IsText : Plan → Run → List ℕ → Type 0) (names : Names) (before after : Outputs) (old new : List (Lane S)) (out : after.out ≡ before.out) (lanes : new ≡ old) where
    -- a refutation
    pub none_told : (pair : Witness) → decision ≡ NoPlan pair → Written schema decision before.err after.err →
        StatementEnds schema statement firings search Ran IsText names before after old new (Ok outcome.No)
    none_told pair is written = go (subst (IsDecided schema statement firings search) is right) (subst (λ d. Written schema d before.err after.err) is written)
      where
        go : IsDecided schema statement firings search (NoPlan pair) → Written schema (NoPlan pair) before.err after.err →
            StatementEnds schema statement firings search Ran IsText names before after old new (Ok outcome.No)
        go (right_pair of for) told = refuted told.text (refutation_told schema statement firings pair told.text fits for told.is told.utf8) told.took out lanes

    -- the log of spent firings
    pub log_told : (select : ℕ) (log : List Firing) → decision ≡ Undecided select log → Written schema decision before.err after.err →
        StatementEnds schema statement firings search Ran IsText names before after old new (Ok outcome.Undecided)
    log_told select log is written = go (subst (IsDecided schema statement firings search) is right) (subst (λ d. Written schema d before.err after.err) is written)
      where
        go : IsDecided schema statement firings search (Undecided select log) → Written schema (Undecided select log) before.err after.err →
            StatementEnds schema statement firings search Ran IsText names before after old new (Ok outcome.Undecided)
        go (right_log one its for) told = undecided select log for (subst (TookAll before.err after.err) told.is told.took) out lanes

-- what the text of an execution says, its result says
module _ {S : Type 0} (schema : Schema) (statement : Statement) (firings search : ℕ) (Ran : Plan → Result Run Stop → Type 0) (IsText IsRight : Plan → Run → List ℕ → Type 0) (names : Names) (before after : Outputs) (old new : List (Lane S))
    (says : (plan : Plan) (entries : List Chosen) (run : Run) (text : List ℕ) → IsPlanned schema statement firings search plan entries → Ran plan (Ok run) → IsText plan run text → IsRight plan run text) where
  delivers : (plan : Plan) (entries : List Chosen) → IsPlanned schema statement firings search plan entries → (result : Result (Unit {0}) Stop) →
      Delivers (Ran plan) (IsText plan) before.out after.out (Rose before.out_faults after.out_faults) result →
      Delivers (Ran plan) (IsRight plan) before.out after.out (Rose before.out_faults after.out_faults) result
  delivers plan entries is = delivers_as (Ran plan) (IsText plan) before.out after.out (Rose before.out_faults after.out_faults) (Ran plan) (IsRight plan) (λ ended ran. ran)
      (λ run text ran given. says plan entries run text is ran given)

  pub with_text : (result : Result Outcome Stop) → StatementEnds schema statement firings search Ran IsText names before after old new result →
      StatementEnds schema statement firings search Ran IsRight names before after old new result
  with_text result (no_decision end why out lanes) = no_decision end why out lanes
  with_text result (untold decision middle count end is told why out lanes) = untold decision middle count end is told why out lanes
  with_text result (refuted text is told out lanes) = refuted text is told out lanes
  with_text result (undecided select log is told out lanes) = undecided select log is told out lanes
  with_text result (stopped plan entries middle count why end is told delivery line) = stopped plan entries middle count why end is told (delivers plan entries is (Err why) delivery) line
  with_text result (done plan entries is told delivery) = done plan entries is told (delivers plan entries is (Ok tt) delivery)
