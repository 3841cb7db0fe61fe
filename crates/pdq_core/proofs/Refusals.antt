-- No stop but that of a broken rule has the status of an answer.
use Rattle.std.proofs.Common.{◌≡◌, ◌⊎◌, inl, inr, ℕ, List, Option, Result, Err, refl, sym, subst}
use Rattle.meaning.specs.declared.types.Fact.{Fact}
use Rattle.meaning.specs.declared.types.Plan.{Plan}
use Rattle.access_schema.specs.declared.schema.Schema.{Schema}
use Rattle.source_trait.specs.Asking.{Seen}
use Rattle.source_trait.specs.declared.files.FileFault.TheVariants as file
use Rattle.source_trait.specs.declared.lanes.Lane.{Lane}
use Rattle.source_trait.specs.declared.source.AttachFault.{AttachFault}
use Rattle.source_trait.specs.declared.source.AttachFault.TheVariants as attach
use Rattle.middleware.specs.declared.fault.Run.{Run}
use Rattle.middleware.specs.declared.fault.RunFault.{RunFault}
use Rattle.middleware.specs.declared.fault.RunFault.TheVariants as fault
use Rattle.command_io.specs.declared.exit_status.Status.{Status}
use Rattle.command_io.specs.declared.exit_status.Status.TheVariants as is
use Rattle.command_io.specs.declared.stop.Input.{Input}
use Rattle.command_io.specs.declared.stop.Stop.{Stop}
use Rattle.command_io.specs.declared.stop.Stop.TheVariants as stop
use Rattle.command_io.specs.Status.{status_of}
use Rattle.command_io.specs.Executing.{stop_of_run, stop_of_crawl, stop_of_batch, ExecutesOrStops, Delivers}
use Rattle.command_io.specs.Executing.Delivers.{no_rows, no_text, cut}
use Rattle.command_io.specs.FaultLines.{Names}
use Rattle.command_io.specs.Inputs.{Contents, FileStop, SchemaStop, QueryStop, BatchStop, PlanStop, TextsStop}
use Rattle.command_io.specs.Inputs.FileStop.{no_memory as file_memory, not_read}
use Rattle.command_io.specs.Inputs.SchemaStop.{no_memory as schema_memory, no_file as no_schema_file, no_schema}
use Rattle.command_io.specs.Inputs.QueryStop.{no_memory as query_memory, no_file as no_query_file, no_statement}
use Rattle.command_io.specs.Inputs.BatchStop.{no_memory as batch_memory, no_file as no_batch_file, no_batch}
use Rattle.command_io.specs.Inputs.PlanStop.{no_memory as plan_memory, no_file as no_plan_file, no_plan}
use Rattle.command_io.specs.Inputs.TextsStop.{no_schema as no_schema_of_both, no_statement as no_statement_of_both}
use Rattle.command_io.specs.Moments.{ResultStop, DecisionStop}
use Rattle.command_io.specs.Moments.ResultStop.{no_memory as result_memory, sink_failed as result_failed}
use Rattle.command_io.specs.Moments.DecisionStop.{no_memory as decision_memory, sink_failed as decision_failed}
use Rattle.command_io.specs.Telling.{StopsFor}
use Rattle.batch_command.specs.Ends.{ExecutesOrStops as BatchRuns, BatchTextsStop}
use Rattle.batch_command.specs.Ends.BatchTextsStop.{no_schema as no_schema_of_batch, no_batch as no_batch_of_both}
use Rattle.crawl_command.specs.Ends.{CrawlsOrStops}

-- The status is none of an answer.
abbrev IsRefusal : Status → Type 0
IsRefusal is.Done = ⊥
IsRefusal is.No = ⊥
IsRefusal is.Undecided = ⊥
IsRefusal _ = Unit {0}

-- The stop is not that of a broken rule.
abbrev pub IsPlain : Stop → Type 0
IsPlain (stop.NotMet line) = ⊥
IsPlain _ = Unit {0}

-- It is, or it is plain.
pub plain_or_not : (end : Stop) → IsPlain end ⊎ ((line : List ℕ) × (end ≡ stop.NotMet line))
plain_or_not stop.Memory = inl tt
plain_or_not stop.Words = inl tt
plain_or_not (stop.File input why) = inl tt
plain_or_not (stop.Schema why) = inl tt
plain_or_not (stop.Query why) = inl tt
plain_or_not (stop.Plan why) = inl tt
plain_or_not stop.DecisionWrite = inl tt
plain_or_not (stop.Illegal why) = inl tt
plain_or_not (stop.Run why) = inl tt
plain_or_not (stop.RoundFailed round) = inl tt
plain_or_not (stop.QueryCall query branch step) = inl tt
plain_or_not (stop.WholeFailed rel) = inl tt
plain_or_not (stop.NotMet line) = inr (line, refl)
plain_or_not stop.ResultWrite = inl tt

attach_refuses : (rel : ℕ) (why : AttachFault) → IsRefusal (status_of (stop.Run (fault.Attach rel why)))
attach_refuses rel attach.Missing = tt
attach_refuses rel attach.Failed = tt
attach_refuses rel (attach.BadHeader column) = tt
attach_refuses rel (attach.BadRow number) = tt
attach_refuses rel (attach.NotUtf8 number) = tt
attach_refuses rel attach.TooLarge = tt
attach_refuses rel attach.NoMemory = tt

refusal_is : (end : Stop) → IsPlain end → IsRefusal (status_of end)
refusal_is stop.Memory plain = tt
refusal_is stop.Words plain = tt
refusal_is (stop.File input file.Missing) plain = tt
refusal_is (stop.File input file.TooLarge) plain = tt
refusal_is (stop.File input file.Failed) plain = tt
refusal_is (stop.File input file.NoMemory) plain = tt
refusal_is (stop.Schema why) plain = tt
refusal_is (stop.Query why) plain = tt
refusal_is (stop.Plan why) plain = tt
refusal_is stop.DecisionWrite plain = tt
refusal_is (stop.Illegal why) plain = tt
refusal_is (stop.Run fault.NoMemory) plain = tt
refusal_is (stop.Run (fault.NoSource rel)) plain = tt
refusal_is (stop.Run (fault.UnknownKind rel)) plain = tt
refusal_is (stop.Run (fault.Attach rel why)) plain = attach_refuses rel why
refusal_is (stop.Run (fault.CallFailed branch step)) plain = tt
refusal_is (stop.Run (fault.OverCalls made wanted cap)) plain = tt
refusal_is (stop.Run (fault.BadNumber rel column)) plain = tt
refusal_is (stop.RoundFailed round) plain = tt
refusal_is (stop.QueryCall query branch step) plain = tt
refusal_is (stop.WholeFailed rel) plain = tt
refusal_is (stop.NotMet line) plain = absurd plain
refusal_is stop.ResultWrite plain = tt

-- What each status of a refusal says, that of a plain stop says.
module _ (Says : Status → Type 0) (at_words : Says is.Words) (at_text : Says is.Text) (at_fault : Says is.Fault)
    (at_write : Says is.Write) (at_cap : Says is.Cap) (at_memory : Says is.Memory) where
  refusal_says : (status : Status) → IsRefusal status → Says status
  refusal_says is.Done never = absurd never
  refusal_says is.No never = absurd never
  refusal_says is.Undecided never = absurd never
  refusal_says is.Words refuses = at_words
  refusal_says is.Text refuses = at_text
  refusal_says is.Fault refuses = at_fault
  refusal_says is.Write refuses = at_write
  refusal_says is.Cap refuses = at_cap
  refusal_says is.Memory refuses = at_memory

  pub plain_says : (end : Stop) → IsPlain end → Says (status_of end)
  plain_says end plain = refusal_says (status_of end) (refusal_is end plain)

-- ---- causes of plain stops

pub memory_plain : (given : Stop) → given ≡ stop.Memory → IsPlain given
memory_plain given e = subst IsPlain (sym e) tt

pub run_plain : (why : RunFault) → IsPlain (stop_of_run why)
run_plain fault.NoMemory = tt
run_plain (fault.NoSource rel) = tt
run_plain (fault.UnknownKind rel) = tt
run_plain (fault.Attach rel why) = tt
run_plain (fault.CallFailed branch step) = tt
run_plain (fault.OverCalls made wanted cap) = tt
run_plain (fault.BadNumber rel column) = tt

pub crawl_plain : (why : RunFault) → IsPlain (stop_of_crawl why)
crawl_plain fault.NoMemory = tt
crawl_plain (fault.NoSource rel) = tt
crawl_plain (fault.UnknownKind rel) = tt
crawl_plain (fault.Attach rel why) = tt
crawl_plain (fault.CallFailed branch step) = tt
crawl_plain (fault.OverCalls made wanted cap) = tt
crawl_plain (fault.BadNumber rel column) = tt

pub batch_plain : (number : ℕ) (why : RunFault) → IsPlain (stop_of_batch number why)
batch_plain number fault.NoMemory = tt
batch_plain number (fault.NoSource rel) = tt
batch_plain number (fault.UnknownKind rel) = tt
batch_plain number (fault.Attach rel why) = tt
batch_plain number (fault.CallFailed branch step) = tt
batch_plain number (fault.OverCalls made wanted cap) = tt
batch_plain number (fault.BadNumber rel column) = tt

pub result_plain : (rose : Type 0) (given : Stop) → ResultStop rose given → IsPlain given
result_plain rose given result_memory = tt
result_plain rose given (result_failed h) = tt

pub decision_plain : (rose : Type 0) (given : Stop) → DecisionStop rose given → IsPlain given
decision_plain rose given decision_memory = tt
decision_plain rose given (decision_failed h) = tt

module _ (told : Option Contents) (name : List ℕ) (rose : Type 0) where
  file_plain : (limit : ℕ) (which : Input) (given : Stop) → FileStop told name limit rose which given → IsPlain given
  file_plain limit which given file_memory = tt
  file_plain limit which given (not_read why cause) = tt

  pub schema_plain : (given : Stop) → SchemaStop told name rose given → IsPlain given
  schema_plain given schema_memory = tt
  schema_plain given (no_schema_file its why) = file_plain _ _ given why
  schema_plain given (no_schema why apart is) = tt

  query_plain : (schema : Schema) (given : Stop) → QueryStop told name schema rose given → IsPlain given
  query_plain schema given query_memory = tt
  query_plain schema given (no_query_file its why) = file_plain _ _ given why
  query_plain schema given (no_statement why apart is) = tt

  batch_text_plain : (schema : Schema) (given : Stop) → BatchStop told name schema rose given → IsPlain given
  batch_text_plain schema given batch_memory = tt
  batch_text_plain schema given (no_batch_file its why) = file_plain _ _ given why
  batch_text_plain schema given (no_batch why apart is) = tt

  pub plan_plain : (given : Stop) → PlanStop told name rose given → IsPlain given
  plan_plain given plan_memory = tt
  plan_plain given (no_plan_file its why) = file_plain _ _ given why
  plan_plain given (no_plan why apart is) = tt

pub texts_plain : (told : Option Contents) (name query : List ℕ) (rose : Type 0) (given : Stop) → TextsStop told name query rose given → IsPlain given
texts_plain told name query rose given (no_schema_of_both its why) = schema_plain told name rose given why
texts_plain told name query rose given (no_statement_of_both schema its is why) = query_plain told query rose schema given why

pub batch_texts_plain : (told : Option Contents) (name queries : List ℕ) (rose : Type 0) (given : Stop) →
    BatchTextsStop told name queries rose given → IsPlain given
batch_texts_plain told name queries rose given (no_schema_of_batch its why) = schema_plain told name rose given why
batch_texts_plain told name queries rose given (no_batch_of_both schema its is why) = batch_text_plain told queries rose schema given why

-- A command that stopped for a plain cause ends with a plain stop.
pub plain_end : {Cause : Stop → Type 0} {names : Names} {old new : Option (List ℕ)} {rose : Type 0} (end : Stop) → ((given : Stop) → Cause given → IsPlain given) →
    StopsFor Cause names old new rose end → IsPlain end
plain_end end each why = elim why.tells [
  | inl stays ↦ subst IsPlain (sym stays.0) (each why.given why.cause)
  | inr wanted ↦ subst IsPlain (sym wanted.0) tt
]

-- A delivery is stopped by a plain stop, where what is delivered is.
delivered_plain : {A : Type 0} (Ran : Result A Stop → Type 0) → ((end : Stop) → Ran (Err end) → IsPlain end) → (IsText : A → List ℕ → Type 0)
    (out_old out_new : Option (List ℕ)) (rose : Type 0) (why : Stop) → Delivers Ran IsText out_old out_new rose (Err why) → IsPlain why
delivered_plain Ran each IsText out_old out_new rose why (no_rows end ran same) = each end ran
delivered_plain Ran each IsText out_old out_new rose why (no_text run ran same) = tt
delivered_plain Ran each IsText out_old out_new rose why (cut run text end ran given part cause) = result_plain rose end cause

module _ {S : Type 0} (seen : S → Seen) (schema : Schema) where
  -- so is an execution without tests of the rules
  pub delivery_plain : (plan : Plan) (calls : ℕ) (old new : List (Lane S)) (IsText : Run → List ℕ → Type 0) (out_old out_new : Option (List ℕ))
      (rose : Type 0) (why : Stop) → Delivers (ExecutesOrStops seen schema plan calls old new) IsText out_old out_new rose (Err why) → IsPlain why
  delivery_plain plan calls old new =
      delivered_plain (ExecutesOrStops seen schema plan calls old new) (λ end ran. subst IsPlain (sym ran.2) (run_plain ran.0))

  -- one of several plans together
  pub batched_plain : (plans : List Plan) (calls : ℕ) (old new : List (Lane S)) (IsText : List Run → List ℕ → Type 0)
      (out_old out_new : Option (List ℕ)) (rose : Type 0) (why : Stop) →
      Delivers (BatchRuns seen schema calls old new plans) IsText out_old out_new rose (Err why) → IsPlain why
  batched_plain plans calls old new =
      delivered_plain (BatchRuns seen schema calls old new plans)
      (λ end ran. subst IsPlain (sym ran.2) (batch_plain ran.0.plan ran.0.fault))

  -- and a crawl
  pub crawled_plain : (calls : ℕ) (old new : List (Lane S)) (IsText : List Fact → List ℕ → Type 0) (out_old out_new : Option (List ℕ))
      (rose : Type 0) (why : Stop) → Delivers (CrawlsOrStops seen schema calls old new) IsText out_old out_new rose (Err why) → IsPlain why
  crawled_plain calls old new =
      delivered_plain (CrawlsOrStops seen schema calls old new) (λ end ran. subst IsPlain (sym ran.2) (crawl_plain ran.0))
