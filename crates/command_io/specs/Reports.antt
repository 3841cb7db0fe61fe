-- What is written of the execution of a plan.
use Rattle.std.specs.Prelude.{◌≡◌, ◌++◌, ℕ, List, [], ◌∷◌, codes, length, Contains}
use Rattle.std.specs.Fmt.{decimal}
use Rattle.csv.specs.Writing.{default_writer, row_text as line_of_row}
use Rattle.source_trait.specs.Asking.{RowList}
use Rattle.row_text.specs.RowText.{IsRowText}
use Rattle.middleware.specs.declared.fault.Run.{Run}
use Rattle.command_io.specs.declared.delivery.Report.{Report}
use Rattle.command_io.specs.declared.delivery.Report.TheVariants as report

-- the line of the last row, with its line feed; a line feed where there is no row
abbrev pub last_line : RowList → List ℕ
last_line [] = codes "\n"
last_line (row ∷ []) = line_of_row default_writer row
last_line (row ∷ next ∷ rows) = last_line (next ∷ rows)

-- the line for a world of this size, of which so many requests gave these rows
abbrev pub summary : ℕ → ℕ → RowList → List ℕ
summary size made rows =
    codes "world " ++ decimal size ++ codes ": " ++ decimal made ++ codes " requests, " ++ decimal (length rows) ++ codes " rows, last " ++ last_line rows

-- the text is this report of an execution
abbrev pub IsReport : Report → Run → List ℕ → Type 0
IsReport (report.Rows names) run text = IsRowText names.now (Contains run.rows) text
IsReport (report.Summary size) run text = text ≡ summary size run.made run.rows
