-- A count that rose in a part of a call rose in the whole of it; so a cause stays what it is.
use Rattle.std.proofs.Common.{◌≡◌, ◌⊎◌, ◌≤◌, ℕ, List, Option, None, Some, inl, inr, arith}
use Rattle.source_trait.specs.Causes.{Rose}
use Rattle.source_trait.specs.declared.files.FileFault.{FileFault}
use Rattle.source_trait.specs.declared.files.FileFault.TheVariants as file
use Rattle.access_schema.specs.declared.schema.Schema.{Schema}
use Rattle.command_io.specs.declared.stop.Stop.{Stop}
use Rattle.command_io.specs.declared.stop.Stop.TheVariants as stop
use Rattle.command_io.specs.declared.stop.Input.{Input}
use Rattle.command_io.specs.Inputs.{Contents, FileCause, FileStop, QueryStop, BatchStop, PlanStop}
use Rattle.command_io.specs.Inputs.FileStop.{no_memory as file_memory, not_read}
use Rattle.command_io.specs.Inputs.QueryStop.{no_memory as query_memory, no_file as no_query_file, no_statement}
use Rattle.command_io.specs.Inputs.BatchStop.{no_memory as batch_memory, no_file as no_batch_file, no_batch}
use Rattle.command_io.specs.Inputs.PlanStop.{no_memory as plan_memory, no_file as no_plan_file, no_plan}
use Rattle.command_io.specs.Moments.{DecisionStop}
use Rattle.command_io.specs.Moments.DecisionStop.{no_memory as decision_memory, sink_failed as decision_failed}

pub rose_between : (a b c d : ℕ) → a ≤ b → c ≤ d → Rose b c → Rose a d
rose_between a b c d first second rose = omega (arith, first, second, rose)

-- why a decision was not printed
pub decision_stop : (rose : Type 0) (end : Stop) → (end ≡ stop.Memory) ⊎ ((end ≡ stop.DecisionWrite) × rose) → DecisionStop rose end
decision_stop rose end (inl memory) = rw memory decision_memory
decision_stop rose end (inr (failed, rises)) = rw failed (decision_failed rises)

cause_later : (fault : FileFault) (told : Option Contents) (name : List ℕ) (limit : ℕ) (rose more : Type 0) → (rose → more) →
    FileCause fault told name limit rose → FileCause fault told name limit more
cause_later file.Missing None name limit rose more then cause = then cause
cause_later file.Missing (Some files) name limit rose more then cause = cause
cause_later file.TooLarge None name limit rose more then cause = then cause
cause_later file.TooLarge (Some files) name limit rose more then cause = cause
cause_later file.Failed told name limit rose more then cause = then cause
cause_later file.NoMemory told name limit rose more then cause = cause

file_later : (told : Option Contents) (name : List ℕ) (limit : ℕ) (rose more : Type 0) (which : Input) (end : Stop) → (rose → more) →
    FileStop told name limit rose which end → FileStop told name limit more which end
file_later told name limit rose more which end then file_memory = file_memory
file_later told name limit rose more which end then (not_read fault cause) = not_read fault (cause_later fault told name limit rose more then cause)

pub query_later : (told : Option Contents) (name : List ℕ) (schema : Schema) (rose more : Type 0) (end : Stop) → (rose → more) →
    QueryStop told name schema rose end → QueryStop told name schema more end
query_later told name schema rose more end then query_memory = query_memory
query_later told name schema rose more end then (no_query_file its cause) = no_query_file its (file_later told name _ rose more _ its then cause)
query_later told name schema rose more end then (no_statement fault other cause) = no_statement fault other cause

pub batch_later : (told : Option Contents) (name : List ℕ) (schema : Schema) (rose more : Type 0) (end : Stop) → (rose → more) →
    BatchStop told name schema rose end → BatchStop told name schema more end
batch_later told name schema rose more end then batch_memory = batch_memory
batch_later told name schema rose more end then (no_batch_file its cause) = no_batch_file its (file_later told name _ rose more _ its then cause)
batch_later told name schema rose more end then (no_batch fault other cause) = no_batch fault other cause

pub plan_later : (told : Option Contents) (name : List ℕ) (rose more : Type 0) (end : Stop) → (rose → more) →
    PlanStop told name rose end → PlanStop told name more end
plan_later told name rose more end then plan_memory = plan_memory
plan_later told name rose more end then (no_plan_file its cause) = no_plan_file its (file_later told name _ rose more _ its then cause)
plan_later told name rose more end then (no_plan fault other cause) = no_plan fault other cause
