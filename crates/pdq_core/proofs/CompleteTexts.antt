-- Texts that are given are read, and what is left to stop a command is a lack of memory.
use Rattle.std.proofs.Common.{◌≡◌, ◌<◌, ℕ, List, length, Option, None, Some, Result, Ok, Err, refl, sym, ◌∙◌, subst, inl, inr, arith}
use Rattle.std.specs.Prelude.{IfSome, IsSomeAnd, MatchOption}
use Rattle.lists.proofs.Members.{some_injective}
use Rattle.meaning.specs.declared.types.Plan.{Plan}
use Rattle.meaning.specs.declared.types.Statement.{Statement}
use Rattle.access_schema.specs.declared.schema.Schema.{Schema}
use Rattle.tgd_reader.specs.SchemaText.{IsSchemaText}
use Rattle.tgd_reader.proofs.Exactly.{read_only, no_fault as schema_fault}
use Rattle.sql_select.proofs.Unique.{one_statement, no_fault as query_fault}
use Rattle.sql_batch.proofs.Unique.{one_batch, no_fault as batch_fault}
use Rattle.plan_form.specs.Grammar.{IsPlanText}
use Rattle.plan_form.proofs.TextLaws.{text_only, no_fault as plan_fault}
use Rattle.source_trait.specs.Outside.{bytes_of}
use Rattle.source_trait.specs.declared.files.FileFault.{FileFault}
use Rattle.source_trait.specs.declared.files.FileFault.TheVariants as file
use Rattle.command_io.specs.declared.stop.Input.{Input}
use Rattle.command_io.specs.declared.stop.Stop.{Stop}
use Rattle.command_io.specs.declared.stop.Stop.TheVariants as stop
use Rattle.command_io.specs.Status.{status_of}
use Rattle.command_io.specs.Inputs.{Contents, without_mark, IsText, SchemaIsRead, QueryIsRead, BatchIsRead, PlanIsRead, FileCause, FileStop, SchemaStop, QueryStop, BatchStop, PlanStop, TextsStop}
use Rattle.command_io.specs.Inputs.FileStop.{no_memory as file_memory, not_read}
use Rattle.command_io.specs.Inputs.SchemaStop.{no_memory as schema_memory, no_file as no_schema_file, no_schema}
use Rattle.command_io.specs.Inputs.QueryStop.{no_memory as query_memory, no_file as no_query_file, no_statement}
use Rattle.command_io.specs.Inputs.BatchStop.{no_memory as batch_memory, no_file as no_batch_file, no_batch}
use Rattle.command_io.specs.Inputs.PlanStop.{no_memory as plan_memory, no_file as no_plan_file, no_plan}
use Rattle.command_io.specs.Inputs.TextsStop.{no_schema as no_schema_of_both, no_statement as no_statement_of_both}
use Rattle.command_io.specs.Moments.{ResultStop, DecisionStop}
use Rattle.command_io.specs.Moments.ResultStop.{no_memory as result_memory, sink_failed as result_failed}
use Rattle.command_io.specs.Moments.DecisionStop.{no_memory as decision_memory, sink_failed as decision_failed}
use Rattle.command_io.specs.Executing.{Delivers}
use Rattle.command_io.specs.Executing.Delivers.{no_rows, no_text, cut}
use Rattle.command_io.specs.FaultLines.{Names}
use Rattle.command_io.specs.Telling.{StopsFor}
use Rattle.pdq_core.specs.Complete.{IsAnswered, IsGiven, SchemaIsGiven, QueryIsGiven, BatchIsGiven, PlanIsGiven}
use Rattle.pdq_core.specs.Complete.IsAnswered.{no_memory}

-- ---- what was read is what is given

same_text : {P Q : List ℕ → Type 0} (told : Option Contents) (name : List ℕ) (limit : ℕ) → IsGiven told name limit P → IsText told name limit Q →
    (text : List ℕ) × P text × Q text
same_text {P = P} {Q = Q} told name limit given is =
    let at : IfSome (Some given.files) (λ (files : Contents). bytes_of files name ≡ Some is.bytes) =
    subst (λ (t : Option Contents). IfSome t (λ (files : Contents). bytes_of files name ≡ Some is.bytes)) given.are_told is.of_file in
    let e : is.bytes ≡ given.bytes = some_injective is.bytes given.bytes (sym at ∙ given.there) in
    (without_mark given.bytes, given.holds, subst (λ (bytes : List ℕ). Q (without_mark bytes)) e is.holds)

pub one_schema : (text : List ℕ) (one other : Schema) → IsSchemaText text one → IsSchemaText text other → one ≡ other
one_schema text one other a b = read_only text (Ok one) a tt other b

pub one_plan : (text : List ℕ) (one other : Plan) → IsPlanText text one → IsPlanText text other → one ≡ other
one_plan text one other a b = text_only text (Ok one) a tt other b

pub same_schema : (told : Option Contents) (name : List ℕ) (schema read : Schema) → SchemaIsGiven told name schema → SchemaIsRead told name read → schema ≡ read
same_schema told name schema read given is =
    let (text, a, b) = same_text told name _ given is in
    one_schema text schema read a b

pub same_statement : (told : Option Contents) (name : List ℕ) (schema : Schema) (statement read : Statement) → QueryIsGiven told name schema statement → QueryIsRead told name schema read →
    statement ≡ read
same_statement told name schema statement read given is =
    let (text, a, b) = same_text told name _ given is in
    one_statement schema text statement read a b

pub same_batch : (told : Option Contents) (name : List ℕ) (schema : Schema) (statements read : List Statement) →
    BatchIsGiven told name schema statements → BatchIsRead told name schema read → statements ≡ read
same_batch told name schema statements read given is =
    let (text, a, b) = same_text told name _ given is in
    one_batch schema text statements read a b

pub same_plan : (told : Option Contents) (name : List ℕ) (plan read : Plan) → PlanIsGiven told name plan → PlanIsRead told name read → plan ≡ read
same_plan told name plan read given is =
    let (text, a, b) = same_text told name _ given is in
    one_plan text plan read a b

-- ---- what stops is a lack of memory

module _ (told : Option Contents) (name : List ℕ) (rose : Type 0) (calm : rose → ⊥) where
  no_cause : {P : List ℕ → Type 0} (limit : ℕ) → IsGiven told name limit P → (fault : FileFault) → FileCause fault told name limit rose → ⊥
  no_cause limit given file.Missing cause =
      let none : bytes_of given.files name ≡ None = subst (λ (t : Option Contents). MatchOption t rose (λ files. bytes_of files name ≡ None)) given.are_told cause in
      let some = given.there in
      cc
  no_cause limit given file.TooLarge cause =
      let long : IsSomeAnd (bytes_of given.files name) (λ bytes. limit < length bytes) =
      subst (λ (t : Option Contents). MatchOption t rose (λ files. IsSomeAnd (bytes_of files name) (λ bytes. limit < length bytes))) given.are_told cause in
      let longer : limit < length given.bytes = subst (λ (o : Option (List ℕ)). IsSomeAnd o (λ bytes. limit < length bytes)) given.there long in
      let within = given.within in
      omega (arith, longer, within)
  no_cause limit given file.Failed cause = calm cause
  no_cause limit given file.NoMemory cause = cause

  file_stop : {P : List ℕ → Type 0} (limit : ℕ) → IsGiven told name limit P → (which : Input) (end : Stop) → FileStop told name limit rose which end → end ≡ stop.Memory
  file_stop limit given which end file_memory = refl
  file_stop limit given which end (not_read fault cause) = absurd (no_cause limit given fault cause)

  pub schema_stop : (schema : Schema) → SchemaIsGiven told name schema → (end : Stop) → SchemaStop told name rose end → end ≡ stop.Memory
  schema_stop schema given end schema_memory = refl
  schema_stop schema given end (no_schema_file its why) = file_stop _ given _ its why
  schema_stop schema given end (no_schema fault apart is) =
      let (text, a, b) = same_text told name _ given is in
      absurd (apart (schema_fault text schema fault a b))

  pub query_stop : (schema : Schema) (statement : Statement) → QueryIsGiven told name schema statement → (end : Stop) → QueryStop told name schema rose end → end ≡ stop.Memory
  query_stop schema statement given end query_memory = refl
  query_stop schema statement given end (no_query_file its why) = file_stop _ given _ its why
  query_stop schema statement given end (no_statement fault apart is) =
      let (text, a, b) = same_text told name _ given is in
      absurd (apart (query_fault schema text statement fault a b))

  pub batch_stop : (schema : Schema) (statements : List Statement) → BatchIsGiven told name schema statements →
      (end : Stop) → BatchStop told name schema rose end → end ≡ stop.Memory
  batch_stop schema statements given end batch_memory = refl
  batch_stop schema statements given end (no_batch_file its why) = file_stop _ given _ its why
  batch_stop schema statements given end (no_batch fault apart is) =
      let (text, a, b) = same_text told name _ given is in
      absurd (apart (batch_fault schema text statements fault a b))

  pub plan_stop : (plan : Plan) → PlanIsGiven told name plan → (end : Stop) → PlanStop told name rose end → end ≡ stop.Memory
  plan_stop plan given end plan_memory = refl
  plan_stop plan given end (no_plan_file its why) = file_stop _ given _ its why
  plan_stop plan given end (no_plan fault apart is) =
      let (text, a, b) = same_text told name _ given is in
      absurd (apart (plan_fault text plan fault a b))

pub texts_stop : (told : Option Contents) (name query : List ℕ) (rose : Type 0) → (rose → ⊥) → (schema : Schema) (statement : Statement) → SchemaIsGiven told name schema →
    QueryIsGiven told query schema statement → (end : Stop) → TextsStop told name query rose end → end ≡ stop.Memory
texts_stop told name query rose calm schema statement given query_given end (no_schema_of_both its why) = schema_stop told name rose calm schema given its why
texts_stop told name query rose calm schema statement given query_given end (no_statement_of_both other its is why) =
    let schemas = same_schema told name schema other given is in
    query_stop told query rose calm other statement (subst (λ (s : Schema). QueryIsGiven told query s statement) schemas query_given) its why

pub result_stop : (rose : Type 0) → (rose → ⊥) → (end : Stop) → ResultStop rose end → end ≡ stop.Memory
result_stop rose calm end result_memory = refl
result_stop rose calm end (result_failed h) = absurd (calm h)

-- a delivery is stopped by nothing but a lack of memory, where nothing else stops what is delivered and the output does not fail
pub delivered_stop : {A : Type 0} (Ran : Result A Stop → Type 0) → ((end : Stop) → Ran (Err end) → end ≡ stop.Memory) → (IsText : A → List ℕ → Type 0)
    (out_old out_new : Option (List ℕ)) (rose : Type 0) → (rose → ⊥) → (why : Stop) → Delivers Ran IsText out_old out_new rose (Err why) → why ≡ stop.Memory
delivered_stop Ran only IsText out_old out_new rose calm why (no_rows end ran same) = only end ran
delivered_stop Ran only IsText out_old out_new rose calm why (no_text run ran same) = refl
delivered_stop Ran only IsText out_old out_new rose calm why (cut run text end ran is part cause) = result_stop rose calm end cause

pub decision_stop : (rose : Type 0) → (rose → ⊥) → (end : Stop) → DecisionStop rose end → end ≡ stop.Memory
decision_stop rose calm end decision_memory = refl
decision_stop rose calm end (decision_failed h) = absurd (calm h)

-- A command that stops for lack of memory alone is answered.
pub stop_answered : {Cause : Stop → Type 0} {names : Names} {old new : Option (List ℕ)} {rose : Type 0} (end : Stop) → ((given : Stop) → Cause given → given ≡ stop.Memory) →
    StopsFor Cause names old new rose end → IsAnswered (status_of end)
stop_answered end only why =
    let memory : end ≡ stop.Memory = elim why.tells [
      | inl stays ↦ stays.0 ∙ only why.given why.cause
      | inr wanted ↦ wanted.0
    ] in
    subst (λ (s : Stop). IsAnswered (status_of s)) (sym memory) no_memory
