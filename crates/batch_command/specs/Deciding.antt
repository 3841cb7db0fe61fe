-- How far the statements of a batch are decided, and what standard error takes meanwhile.
use Rattle.std.specs.Prelude.{◌≡◌, ◌+◌, ◌++◌, ℕ, List, [], ◌∷◌, Option, Result, Ok, Err, length, map, codes}
use Rattle.std.specs.List.{AllZip}
use Rattle.std.specs.Fmt.{decimal}
use Rattle.std.specs.Str.{IsUtf8}
use Rattle.meaning.specs.declared.types.Statement.{Statement}
use Rattle.meaning.specs.declared.types.Plan.{Plan}
use Rattle.meaning.specs.declared.types.Firing.{Firing}
use Rattle.access_schema.specs.declared.schema.Schema.{Schema}
use Rattle.source_trait.specs.Causes.{Rose}
use Rattle.findings.specs.declared.decision.Chosen.{Chosen}
use Rattle.findings.specs.declared.decision.Decision.{Decision}
use Rattle.proof_search.specs.Decisions.{IsUndecided}
use Rattle.explain.specs.Printing.{IsDecisionText, planned_text, undecided_text}
use Rattle.command_io.specs.declared.line.FileNames.{FileNames}
use Rattle.command_io.specs.declared.stop.Stop.{Stop}
use Rattle.command_io.specs.declared.stop.Stop.TheVariants as stop
use Rattle.command_io.specs.declared.outcome.Outcome.{Outcome}
use Rattle.command_io.specs.declared.outcome.Outcome.TheVariants as outcome
use Rattle.command_io.specs.Moments.{Between, DecisionStop}
use Rattle.command_io.specs.Writing.{TookAll}
use Rattle.command_io.specs.FaultLines.{Names}
use Rattle.command_io.specs.Telling.{StopsFor}
use Rattle.run_command.specs.Deciding.{IsPlanned, IsDecided, IsRefuted, TookPartOf}

-- the names in the line of a stop
abbrev pub names_in : FileNames → Schema → Names
names_in names schema = record { schema = names.schema.now; query = names.query.now; plan = names.plan.now; relations = schema.relations }

-- the line in front of the decision on the query of this number
abbrev pub query_line : ℕ → List ℕ
query_line number = codes "# query " ++ decimal number ++ codes "\n"

-- The text is that of the decision, behind the line of this number, and it is UTF-8.
pub record IsNumbered (number : ℕ) (schema : Schema) (decision : Decision) (text : List ℕ) : Type 0 where
  pub behind : List ℕ
  pub is : IsDecisionText schema decision behind
  pub utf8 : IsUtf8 behind
  pub whole : text ≡ query_line number ++ behind

-- ---- statements that have plans

-- A plan, and what is said of the cost of its branches.
pub record Told : Type 0 where
  pub plan : Plan
  pub entries : List Chosen

abbrev pub plans_of : List Told → List Plan
plans_of told = map (λ (its : Told). its.plan) told

-- the texts of these plans, each behind the line of its number, from this number on
abbrev pub told_text : ℕ → List Told → List ℕ
told_text number [] = []
told_text number (its ∷ others) = query_line number ++ planned_text its.entries its.plan ++ told_text (number + 1) others

-- Each of the statements has such a plan, and a sink took the texts of these whole.
pub record AreTold (schema : Schema) (firings search : ℕ) (statements : List Statement) (old new : Option (List ℕ))
    (told : List Told) : Type 0 where
  pub planned : AllZip (λ statement (its : Told). IsPlanned schema statement firings search its.plan its.entries) statements told
  pub took : TookAll old new (told_text 1 told)

-- ---- ends

-- How a batch ends at the statement of this number.
pub data EndsAt (schema : Schema) (firings search number : ℕ) (statement : Statement) (names : Names) (before after : Option (List ℕ))
    (before_faults after_faults : ℕ) :
    Result Outcome Stop → Type 0 where
  -- memory was wanted for a decision, and nothing but the line was written
  no_decision : (end : Stop) → StopsFor (λ given. given ≡ stop.Memory) names before after (Rose before_faults after_faults) end →
      EndsAt schema firings search number statement names before after before_faults after_faults (Err end)
  -- the decision was not written whole; the line of that may be missing only where its writing failed too
  untold : (decision : Decision) (middle : Option (List ℕ)) (count : Between before_faults after_faults) (end : Stop) →
      IsDecided schema statement firings search decision → TookPartOf before middle (IsNumbered number schema decision) →
      StopsFor (DecisionStop (Rose before_faults count.faults)) names middle after (Rose count.faults after_faults) end →
      EndsAt schema firings search number statement names before after before_faults after_faults (Err end)
  -- there is no plan: the refutation was written whole
  refuted : (text : List ℕ) → IsRefuted schema statement firings text → TookAll before after (query_line number ++ text) →
      EndsAt schema firings search number statement names before after before_faults after_faults (Ok outcome.No)
  -- the firings were spent: their log was written whole
  undecided : (select : ℕ) (log : List Firing) → IsUndecided schema statement firings select log →
      TookAll before after (query_line number ++ undecided_text schema select log) →
      EndsAt schema firings search number statement names before after before_faults after_faults (Ok outcome.Undecided)

-- A batch ends while it is decided: the statements in front of one have plans, whose texts were written, and it ends at that one.
pub record Halts (schema : Schema) (firings search : ℕ) (statements : List Statement) (names : Names) (before after : Option (List ℕ))
    (before_faults after_faults : ℕ)
    (result : Result Outcome Stop) : Type 0 where
  pub front : List Statement
  pub statement : Statement
  pub rest : List Statement
  pub told : List Told
  pub middle : Option (List ℕ)
  pub count : Between before_faults after_faults
  pub all : statements ≡ front ++ statement ∷ rest
  pub before_it : AreTold schema firings search front before middle told
  pub at_it : EndsAt schema firings search (length front + 1) statement names middle after count.faults after_faults result
