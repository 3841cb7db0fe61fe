-- A batch of one query beside a run of it.
use Rattle.std.proofs.Common.{◌≡◌, ◌++◌, ℕ, List, [], ◌∷◌, length, Some, Ok, refl, sym, ◌∙◌, ap, subst}
use Rattle.std.specs.Prelude.{slice_get}
use Rattle.std.specs.List.{AllZip}
use Rattle.std.proofs.lemmas.List.{append-nil}
use Rattle.lists.proofs.Members.{some_injective}
use Rattle.meaning.specs.declared.types.Fact.{Fact}
use Rattle.meaning.specs.declared.types.Plan.{Plan}
use Rattle.meaning.specs.declared.types.Statement.{Statement}
use Rattle.meaning.specs.Answers.{Answers}
use Rattle.meaning.specs.Claims.{IsModel}
use Rattle.access_schema.specs.declared.schema.Schema.{Schema}
use Rattle.access_schema.specs.Meaning.{meaning_of}
use Rattle.proof_search.specs.Plans.{HasNoPlan}
use Rattle.sql_select.specs.Statements.{result_names}
use Rattle.row_text.specs.RowText.{IsRowText}
use Rattle.row_text.proofs.Texts.{IsRowText-unique}
use Rattle.source_trait.specs.Asking.{Seen}
use Rattle.source_trait.specs.declared.lanes.Lane.{Lane}
use Rattle.middleware.specs.LaneBranches.{LanesHoldPlan}
use Rattle.middleware.specs.declared.fault.Run.{Run}
use Rattle.command_io.specs.declared.outcome.Outcome.TheVariants.{Done, No}
use Rattle.command_io.specs.Inputs.{BatchIsRead, Contents, SchemaIsRead}
use Rattle.command_io.specs.Writing.{TookAll}
use Rattle.run_command.specs.Ends.{IsResult}
use Rattle.batch_command.specs.Deciding.{Told, plans_of}
use Rattle.batch_command.specs.Ends.{AreParts, answer_line, parts_text}
use Rattle.batch_laws.specs.Alone.{Went, IsBatch, IsRun, LanesHold}
use Rattle.batch_laws.proofs.Ended.{BatchGave, BatchRefused, ReadAll, ReadOne, RunGave}
use Rattle.batch_laws.proofs.Ended.{batch_gave, batch_refused, one_schema, one_statement, run_gave, run_none}

-- ---- a batch of one statement

part_alone : (number : ℕ) (part : List ℕ) → parts_text number (part ∷ []) ≡ answer_line number ++ part
part_alone number part = append-nil (answer_line number ++ part)

module _ {S : Type 0} (seen : S → Seen) (schema : Schema) (statement : Statement) (lanes : List (Lane S)) where
  -- its text is the line of its number, and the part of the statement
  pub record OnePart (text : List ℕ) : Type 0 where
    pub plan : Plan
    pub run : Run
    pub part : List ℕ
    pub is : IsResult seen schema statement lanes plan run part
    pub text_is : text ≡ answer_line 1 ++ part

  pub only_part : (told : List Told) → AllZip (λ s (its : Told). HasNoPlan schema s → ⊥) (statement ∷ []) told
      → (runs : List Run)
      → length runs ≡ length told → (text : List ℕ)
      → AreParts (λ s plan run. IsResult seen schema s lanes plan run) (statement ∷ []) (plans_of told) runs text
      → OnePart text
  only_part [] planned runs long text parts = absurd planned
  only_part (its ∷ other ∷ told) planned runs long text parts = absurd planned.1
  only_part (its ∷ []) planned [] long text parts = absurd cc
  only_part (its ∷ []) planned (run ∷ second ∷ runs) long text parts = absurd cc
  only_part (its ∷ []) planned (run ∷ []) long text are = go are.parts refl
    where
      go : (parts : List (List ℕ)) → are.parts ≡ parts → OnePart text
      go [] e = let count = are.count in absurd cc
      go (part ∷ other ∷ parts) e = let count = are.count in absurd cc
      go (part ∷ []) e = record {
        plan = its.plan;
        run = run;
        part = part;
        is = are.each 0 statement its.plan run part refl refl refl (ap (λ (l : List (List ℕ)). slice_get l 0) e);
        text_is = are.text_is ∙ ap (parts_text 1) e ∙ part_alone 1 part;
      }

-- ---- the same files

module _ {S : Type 0} (seen : S → Seen) (schema_name query_name : List ℕ) (files : Contents) (run batch : Went S) where
  -- what was read of a batch is what was read of the run
  of_same : (P : Schema → List Statement → Type 0) (Q : Schema → Statement → Type 0)
      (all : ReadAll seen schema_name query_name files batch P)
      (one : ReadOne seen schema_name query_name files run Q) → P one.schema (one.statement ∷ [])
  of_same P Q all one =
      let schema : all.schema ≡ one.schema =
      one_schema files schema_name all.schema one.schema all.schema_is one.schema_is in
      let read = subst (λ (s : Schema). BatchIsRead (Some files) query_name s all.statements) schema
      all.statements_are in
      let same = one_statement files query_name one.schema one.statement all.statements one.statement_is read in
      subst (λ (l : List Statement). P one.schema l) (sym same)
      (subst (λ (s : Schema). P s all.statements) schema all.so)

  -- the answer
  module _ (schema : Schema) (instance : List Fact) (is : SchemaIsRead (Some files) schema_name schema)
      (model : IsModel (meaning_of schema) instance) (of_run : LanesHold seen schema run.new instance)
      (of_batch : LanesHold seen schema batch.new instance) where
    answers_of : (lanes : List (Lane S)) (read : Schema) → schema ≡ read → LanesHold seen schema lanes instance
        → (statement : Statement) (plan : Plan)
        (its : Run) (text : List ℕ) → IsResult seen read statement lanes plan its text
        → IsRowText (result_names statement.selects) (Answers statement instance) text
    answers_of lanes read same holds statement plan its text result = result.answers instance
        (subst (λ (s : Schema). LanesHoldPlan seen s plan lanes instance) same
        (λ lane among rel line accessed at. holds lane among rel line tt at))
        (subst (λ (s : Schema). IsModel (meaning_of s) instance) same model)

    pub one_answer : IsRun seen schema_name query_name files run (Ok Done)
        → IsBatch seen schema_name query_name files batch (Ok Done)
        → (text : List ℕ) × TookAll run.before.out run.after.out text
        × TookAll batch.before.out batch.after.out (answer_line 1 ++ text)
    one_answer ran ran_all =
        let one = run_gave seen schema_name query_name files run ran in
        let all = batch_gave seen schema_name query_name files batch ran_all in
        let gave = of_same (BatchGave seen schema_name query_name files batch)
        (RunGave seen schema_name query_name files run) all one in
        let only = only_part seen one.schema one.statement batch.new gave.told gave.planned gave.runs gave.long
        gave.text gave.parts in
        let same : schema ≡ one.schema = one_schema files schema_name schema one.schema is one.schema_is in
        let first = answers_of run.new one.schema same of_run one.statement one.so.plan one.so.run one.so.text
        one.so.is in
        let second = answers_of batch.new one.schema same of_batch one.statement only.plan only.run only.part only.is in
        let text : one.so.text ≡ only.part =
        IsRowText-unique (result_names one.statement.selects) (Answers one.statement instance)
        (Answers one.statement instance) one.so.text only.part (λ row. (λ c. c, λ c. c)) first second in (
          one.so.text,
          one.so.took,
          subst (λ (t : List ℕ). TookAll batch.before.out batch.after.out t)
              (only.text_is ∙ ap (λ (l : List ℕ). answer_line 1 ++ l) (sym text)) gave.took,
        )

  -- the decision
  pub run_decides : IsRun seen schema_name query_name files run (Ok Done)
      → IsBatch seen schema_name query_name files batch (Ok No) → ⊥
  run_decides ran ran_all =
      let one = run_gave seen schema_name query_name files run ran in
      let all = batch_refused seen schema_name query_name files batch ran_all in
      let none = of_same (BatchRefused seen schema_name query_name files batch)
      (RunGave seen schema_name query_name files run) all one in
      one.so.planned (of_only one.schema one.statement none.front none.statement none.rest none.all none.none)
    where
      of_only : (schema : Schema) (statement : Statement) (front : List Statement) (its : Statement)
          (rest : List Statement)
          → statement ∷ [] ≡ front ++ its ∷ rest → HasNoPlan schema its → HasNoPlan schema statement
      of_only schema statement [] its rest e none =
          subst (HasNoPlan schema)
          (sym (some_injective statement its (ap (λ (l : List Statement). slice_get l 0) e))) none
      of_only schema statement (f ∷ []) its rest e none = absurd cc
      of_only schema statement (f ∷ g ∷ front) its rest e none = absurd cc

  pub batch_decides : IsRun seen schema_name query_name files run (Ok No)
      → IsBatch seen schema_name query_name files batch (Ok Done) → ⊥
  batch_decides ran ran_all =
      let one = run_none seen schema_name query_name files run ran in
      let all = batch_gave seen schema_name query_name files batch ran_all in
      let gave = of_same (BatchGave seen schema_name query_name files batch) HasNoPlan all one in
      of_first one.schema one.statement gave.told gave.planned one.so
    where
      of_first : (schema : Schema) (statement : Statement) (told : List Told)
          → AllZip (λ s (its : Told). HasNoPlan schema s → ⊥) (statement ∷ []) told
          → HasNoPlan schema statement → ⊥
      of_first schema statement [] planned none = planned
      of_first schema statement (its ∷ told) planned none = planned.0 none
