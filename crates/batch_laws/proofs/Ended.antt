-- What `run` of a query and `batch` of it leave behind, by how they ended.
use Rattle.std.proofs.Common.{◌≡◌, ◌+◌, ◌++◌, ℕ, List, [], ◌∷◌, length, Option, Some, Result, Ok, sym, ◌∙◌, subst}
use Rattle.std.specs.List.{AllZip}
use Rattle.std.proofs.lemmas.List.{length-map}
use Rattle.lists.proofs.Members.{some_injective}
use Rattle.meaning.specs.declared.types.Plan.{Plan}
use Rattle.meaning.specs.declared.types.Statement.{Statement}
use Rattle.access_schema.specs.declared.schema.Schema.{Schema}
use Rattle.access_schema.specs.Meaning.{meaning_of}
use Rattle.proof_search.specs.Plans.{HasNoPlan}
use Rattle.source_trait.specs.Asking.{Seen}
use Rattle.tgd_reader.proofs.Exactly.{read_only}
use Rattle.sql_batch.proofs.Single.{one_query}
use Rattle.sql_batch.proofs.Unique.{one_batch}
use Rattle.middleware.specs.declared.fault.Run.{Run}
use Rattle.command_io.specs.declared.outcome.Outcome.{Outcome}
use Rattle.command_io.specs.declared.outcome.Outcome.TheVariants.{Done, No}
use Rattle.command_io.specs.declared.stop.Stop.{Stop}
use Rattle.command_io.specs.Inputs.{Contents, IsText, SchemaIsRead, QueryIsRead, BatchIsRead, without_mark}
use Rattle.command_io.specs.Moments.{outputs_of}
use Rattle.command_io.specs.FaultLines.{Names}
use Rattle.command_io.specs.Writing.{TookAll}
use Rattle.command_io.specs.Executing.Delivers.{done as taken}
use Rattle.run_command.specs.Deciding.{IsPlanned}
use Rattle.run_command.specs.Ends.{IsResult, StatementEnds}
use Rattle.run_command.specs.Ends.StatementEnds.{refuted, done}
use Rattle.run_command.specs.Ends.RunEnds.{read}
use Rattle.run_command.proofs.Sorted.{sorted_equivalent}
use Rattle.batch_command.specs.Deciding.{EndsAt, Told, plans_of}
use Rattle.batch_command.specs.Deciding.EndsAt.{refuted as refuted_at}
use Rattle.batch_command.specs.Ends.{AreParts, ExecutesOrStops, StatementsEnd}
use Rattle.batch_command.specs.Ends.StatementsEnd.{halted, done as done_all}
use Rattle.batch_command.specs.Ends.BatchEnds.{read as read_all}
use Rattle.plan_batches.specs.Batching.{IsRunOf}
use Rattle.batch_command.proofs.Texts.{zip_length}
use Rattle.batch_laws.specs.Alone.{Went, IsBatch, IsRun}

-- ---- what stands in the files

-- a file has one text
one_text : {P Q : List ℕ → Type 0} (files : Contents) (name : List ℕ) (limit : ℕ) → IsText (Some files) name limit P
    → IsText (Some files) name limit Q → (text : List ℕ) × P text × Q text
one_text {P = P} {Q = Q} files name limit first second =
    let same : second.bytes ≡ first.bytes =
    some_injective second.bytes first.bytes (sym second.of_file ∙ first.of_file) in
    (without_mark first.bytes, first.holds, subst (λ (bytes : List ℕ). Q (without_mark bytes)) same second.holds)

pub one_schema : (files : Contents) (name : List ℕ) (first second : Schema) → SchemaIsRead (Some files) name first
    → SchemaIsRead (Some files) name second → first ≡ second
one_schema files name first second a b =
    let (text, is, other) = one_text files name _ a b in read_only text (Ok first) is tt second other

-- a file that is one query is a batch of it
pub one_statement : (files : Contents) (name : List ℕ) (schema : Schema) (statement : Statement)
    (statements : List Statement)
    → QueryIsRead (Some files) name schema statement → BatchIsRead (Some files) name schema statements
    → statement ∷ [] ≡ statements
one_statement files name schema statement statements a b =
    let (text, is, are) = one_text files name _ a b in
    one_batch schema text (statement ∷ []) statements (one_query schema text statement is) are

-- ---- the end of a run

module _ {S : Type 0} (seen : S → Seen) (schema_name query_name : List ℕ) (files : Contents) (went : Went S) where
  -- its texts were read, and this is so of the statement
  pub record ReadOne (P : Schema → Statement → Type 0) : Type 0 where
    pub schema : Schema
    pub statement : Statement
    pub schema_is : SchemaIsRead (Some files) schema_name schema
    pub statement_is : QueryIsRead (Some files) query_name schema statement
    pub so : P schema statement

  -- the statement has a plan, whose run was written
  pub record RunGave (schema : Schema) (statement : Statement) : Type 0 where
    pub plan : Plan
    pub planned : HasNoPlan schema statement → ⊥
    pub run : Run
    pub text : List ℕ
    pub is : IsResult seen schema statement went.new plan run text
    pub took : TookAll went.before.out went.after.out text

  module _ (schema : Schema) (statement : Statement) (Ran : Plan → Result Run Stop → Type 0) (firings search : ℕ) (names : Names) where
    abbrev Ends : Outcome → Type 0
    Ends outcome = StatementEnds schema statement firings search Ran (IsResult seen schema statement went.new) names
        (outputs_of went.before)
        (outputs_of went.after) went.old went.new (Ok outcome)

    gave : Ends Done → RunGave schema statement
    gave (done plan entries planned took (taken run text ran is all)) = record {
      plan = plan;
      planned = λ none. none plan planned.is.lawful
          (sorted_equivalent (meaning_of schema) plan statement planned.is.equivalent);
      run = run;
      text = text;
      is = is;
      took = all;
    }

    refuses : Ends No → HasNoPlan schema statement
    refuses (refuted text refutes took quiet same) = refutes.refutes.none

  run_read : (P : Schema → Statement → Type 0) (wanted : Outcome)
      → ((schema : Schema) (statement : Statement) (Ran : Plan → Result Run Stop → Type 0) (firings search : ℕ) (names : Names)
      → Ends schema statement Ran firings search names wanted → P schema statement)
      → IsRun seen schema_name query_name files went (Ok wanted) → ReadOne P
  run_read P wanted by (settings, told, read schema statement result schema_is statement_is ends) = record {
    schema = schema;
    statement = statement;
    schema_is = subst (λ (t : Option Contents). SchemaIsRead t schema_name schema) told schema_is;
    statement_is = subst (λ (t : Option Contents). QueryIsRead t query_name schema statement) told statement_is;
    so = by schema statement _ _ _ _ ends;
  }

  pub run_gave : IsRun seen schema_name query_name files went (Ok Done) → ReadOne RunGave
  run_gave = run_read RunGave Done gave

  pub run_none : IsRun seen schema_name query_name files went (Ok No) → ReadOne HasNoPlan
  run_none = run_read HasNoPlan No refuses

  -- ---- the end of a batch

  -- its texts were read, and this is so of the statements
  pub record ReadAll (P : Schema → List Statement → Type 0) : Type 0 where
    pub schema : Schema
    pub statements : List Statement
    pub schema_is : SchemaIsRead (Some files) schema_name schema
    pub statements_are : BatchIsRead (Some files) query_name schema statements
    pub so : P schema statements

  -- each of the statements has a plan, whose runs were written part by part
  pub record BatchGave (schema : Schema) (statements : List Statement) : Type 0 where
    pub told : List Told
    pub planned : AllZip (λ statement (its : Told). HasNoPlan schema statement → ⊥) statements told
    pub runs : List Run
    pub long : length runs ≡ length told
    pub text : List ℕ
    pub parts : AreParts (λ statement plan run. IsResult seen schema statement went.new plan run) statements
        (plans_of told) runs text
    pub took : TookAll went.before.out went.after.out text

  -- one of the statements has no plan, and each before it has one
  pub record BatchRefused (schema : Schema) (statements : List Statement) : Type 0 where
    pub front : List Statement
    pub statement : Statement
    pub rest : List Statement
    pub all : statements ≡ front ++ statement ∷ rest
    pub none : HasNoPlan schema statement

  module _ (schema : Schema) (statements : List Statement) (firings search calls : ℕ) (names : Names) where
    abbrev Parts : List Plan → List Run → List ℕ → Type 0
    Parts = AreParts (λ statement plan run. IsResult seen schema statement went.new plan run) statements

    abbrev AllEnd : Outcome → Type 0
    AllEnd outcome = StatementsEnd schema statements firings search
        (ExecutesOrStops seen schema calls went.old went.new) Parts names
        (outputs_of went.before) (outputs_of went.after) went.old went.new (Ok outcome)

    have_plans : (list : List Statement) (told : List Told)
        → AllZip (λ statement (its : Told). IsPlanned schema statement firings search its.plan its.entries) list told
        → AllZip (λ statement (its : Told). HasNoPlan schema statement → ⊥) list told
    have_plans [] [] all = tt
    have_plans [] (its ∷ told) all = all
    have_plans (s ∷ list) [] all = all
    have_plans (s ∷ list) (its ∷ told) all =
        let same = sorted_equivalent (meaning_of schema) its.plan s all.0.is.equivalent in
        (λ none. none its.plan all.0.is.lawful same, have_plans list told all.1)

    gave_all : AllEnd Done → BatchGave schema statements
    gave_all (halted same_result halts quiet same) = go halts.at_it
      where
        go : EndsAt schema firings search (length halts.front + 1) halts.statement names halts.middle
            went.after.err halts.count.faults went.after.err_faults (Ok Done) → BatchGave schema statements
        go ends = elim ends [ ]
    gave_all (done_all told are_told (taken runs text ran parts all)) = record {
      told = told;
      planned = have_plans statements told are_told.planned;
      runs = runs;
      long = sym (zip_length (IsRunOf seen schema (plans_of told) went.new) (plans_of told) runs ran.runs)
          ∙ length-map told (λ (its : Told). its.plan);
      text = text;
      parts = parts;
      took = all;
    }

    refuses_one : AllEnd No → BatchRefused schema statements
    refuses_one (halted same_result halts quiet same) = record {
      front = halts.front;
      statement = halts.statement;
      rest = halts.rest;
      all = halts.all;
      none = go halts.at_it;
    }
      where
        go : EndsAt schema firings search (length halts.front + 1) halts.statement names halts.middle
            went.after.err halts.count.faults went.after.err_faults (Ok No) → HasNoPlan schema halts.statement
        go (refuted_at text refutes took) = refutes.refutes.none

  batch_read : (P : Schema → List Statement → Type 0) (wanted : Outcome)
      → ((schema : Schema) (statements : List Statement) (firings search calls : ℕ) (names : Names)
      → AllEnd schema statements firings search calls names wanted → P schema statements)
      → IsBatch seen schema_name query_name files went (Ok wanted) → ReadAll P
  batch_read P wanted by (limits, told, read_all schema statements result schema_is are ends) = record {
    schema = schema;
    statements = statements;
    schema_is = subst (λ (t : Option Contents). SchemaIsRead t schema_name schema) told schema_is;
    statements_are = subst (λ (t : Option Contents). BatchIsRead t query_name schema statements) told are;
    so = by schema statements _ _ _ _ ends;
  }

  pub batch_gave : IsBatch seen schema_name query_name files went (Ok Done) → ReadAll BatchGave
  batch_gave = batch_read BatchGave Done gave_all

  pub batch_refused : IsBatch seen schema_name query_name files went (Ok No) → ReadAll BatchRefused
  batch_refused = batch_read BatchRefused No refuses_one
