-- What the text of an execution's rows says.
use Rattle.std.proofs.Common.{ℕ, List, Option, Result, Ok}
use Rattle.std.specs.Prelude.{Contains}
use Rattle.meaning.specs.declared.types.Plan.{Plan}
use Rattle.meaning.specs.Rows.{IsRow}
use Rattle.access_schema.specs.declared.schema.Schema.{Schema}
use Rattle.access_schema.specs.Meaning.{meaning_of}
use Rattle.source_trait.specs.Asking.{Seen}
use Rattle.source_trait.specs.declared.lanes.Lane.{Lane}
use Rattle.row_text.specs.RowText.{IsRowText}
use Rattle.row_text.proofs.Texts.{IsRowText-alike}
use Rattle.middleware.specs.declared.fault.Run.{Run}
use Rattle.plan_execution.specs.Executing.{Executes}
use Rattle.command_io.specs.declared.stop.Stop.{Stop}
use Rattle.command_io.specs.Executing.{ExecutesOrStops, Delivers}
use Rattle.command_io.proofs.Delivering.{delivers_as}
use Rattle.exec_command.specs.Known.{column_names}
use Rattle.exec_command.specs.Ends.{IsResult}

module _ {S : Type 0} (seen : S → Seen) (schema : Schema) (plan : Plan) (calls : ℕ) (old new : List (Lane S)) where
  -- the text of the rows is the result
  result_of : (run : Run) (text : List ℕ) → Executes seen schema plan calls old new (Ok run) →
      IsRowText (column_names plan.width) (Contains run.rows) text → IsResult seen schema plan new run text
  result_of run text executes of_rows = record {
    given = of_rows;
    rows = λ instance holds. IsRowText-alike (column_names plan.width) (Contains run.rows) (IsRow (meaning_of schema) plan instance) text (executes.rows instance holds) of_rows;
  }

  -- so the rows are delivered as the result
  pub delivered : (out_old out_new : Option (List ℕ)) (rose : Type 0) (result : Result (Unit {0}) Stop) →
      Delivers (ExecutesOrStops seen schema plan calls old new) (λ run. IsRowText (column_names plan.width) (Contains run.rows)) out_old out_new rose result →
      Delivers (ExecutesOrStops seen schema plan calls old new) (IsResult seen schema plan new) out_old out_new rose result
  delivered out_old out_new rose =
      delivers_as (ExecutesOrStops seen schema plan calls old new) (λ run. IsRowText (column_names plan.width) (Contains run.rows)) out_old out_new rose
      (ExecutesOrStops seen schema plan calls old new) (IsResult seen schema plan new) (λ ended ran. ran) result_of
