-- How the command `reach` ends, and what is so of each way.
use Rattle.std.specs.Prelude.{◌≡◌, ◌↔◌, ℕ, List, [], Contains, Result, Ok, Err}
use Rattle.meaning.specs.declared.types.Fact.{Fact}
use Rattle.meaning.specs.declared.types.Statement.{Statement}
use Rattle.meaning.specs.Values.{Row}
use Rattle.meaning.specs.Access.{IsAccessible}
use Rattle.meaning.specs.Answers.{Answers}
use Rattle.access_schema.specs.declared.schema.Schema.{Schema}
use Rattle.access_schema.specs.Meaning.{meaning_of}
use Rattle.row_text.specs.RowText.{IsRowText}
use Rattle.sql_select.specs.Statements.{result_names}
use Rattle.source_trait.specs.Asking.{Seen}
use Rattle.source_trait.specs.Causes.{Rose}
use Rattle.source_trait.specs.declared.lanes.Lane.{Lane}
use Rattle.crawl.specs.Crawling.{LanesHoldReachable}
use Rattle.command_io.specs.declared.stop.Stop.{Stop}
use Rattle.command_io.specs.declared.outcome.Outcome.{Outcome}
use Rattle.command_io.specs.declared.outcome.Outcome.TheVariants as outcome
use Rattle.command_io.specs.Inputs.{SchemaIsRead, QueryIsRead, TextsStop}
use Rattle.command_io.specs.Moments.{Moment}
use Rattle.command_io.specs.Telling.{StopsFor}
use Rattle.command_io.specs.Executing.{Delivers}
use Rattle.crawl_command.specs.Ends.{CrawlsOrStops}

-- Facts are the accessible part of an instance where they are just those that the methods reach from the schema's constants.
abbrev pub IsAccessiblePart : Schema → List Fact → List Fact → Type 0
IsAccessiblePart schema instance part =
    (fact : Fact) → Contains part fact ↔ IsAccessible (meaning_of schema) schema.constants instance fact

-- The text is that of the statement's answers on the facts that came. On whatever instance the lanes hold, these are the answers on its
-- accessible part, and each of them is an answer on the instance itself.
pub record IsReached {S : Type 0} (seen : S → Seen) (schema : Schema) (statement : Statement) (lanes : List (Lane S))
    (part : List Fact) (text : List ℕ) : Type 0 where
  pub given : IsRowText (result_names statement.selects) (Answers statement part) text
  pub reached : (instance facts : List Fact) → LanesHoldReachable seen schema lanes instance → IsAccessiblePart schema instance facts
      → IsRowText (result_names statement.selects) (Answers statement facts) text
  pub sound : (instance : List Fact) → LanesHoldReachable seen schema lanes instance
      → (row : Row) → Answers statement part row → Answers statement instance row

-- How `reach` ends: a text was refused; or the lanes were crawled, with at most so many calls, and standard output took the text of the
-- answers, whole or not.
pub data ReachEnds {S : Type 0} (seen : S → Seen) (schema_name query_name : List ℕ) (calls : ℕ)
    (before after : Moment) (old new : List (Lane S)) : Result Outcome Stop → Type 0 where
  -- a text was refused, no source was touched, and nothing but the line was written
  no_texts : (end : Stop)
      → StopsFor (TextsStop before.files schema_name query_name (Rose before.file_faults after.file_faults))
      (record { schema = schema_name; query = query_name; plan = []; relations = [] })
      before.err after.err (Rose before.err_faults after.err_faults) end
      → after.out ≡ before.out → new ≡ old → ReachEnds seen schema_name query_name calls before after old new (Err end)
  -- the crawl stopped, or the text of the answers was not written whole
  stopped : (schema : Schema) (statement : Statement) (why end : Stop)
      → SchemaIsRead before.files schema_name schema → QueryIsRead before.files query_name schema statement
      → Delivers (CrawlsOrStops seen schema calls old new) (IsReached seen schema statement new)
      before.out after.out (Rose before.out_faults after.out_faults) (Err why)
      → StopsFor (λ given. given ≡ why)
      (record { schema = schema_name; query = query_name; plan = []; relations = schema.relations })
      before.err after.err (Rose before.err_faults after.err_faults) end
      → ReachEnds seen schema_name query_name calls before after old new (Err end)
  -- the crawl came to its end, the text of the answers was written whole, and nothing was written on standard error
  done : (schema : Schema) (statement : Statement)
      → SchemaIsRead before.files schema_name schema → QueryIsRead before.files query_name schema statement
      → Delivers (CrawlsOrStops seen schema calls old new) (IsReached seen schema statement new)
      before.out after.out (Rose before.out_faults after.out_faults) (Ok tt)
      → after.err ≡ before.err → ReachEnds seen schema_name query_name calls before after old new (Ok outcome.Done)
