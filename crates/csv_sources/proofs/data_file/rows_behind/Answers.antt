use Rattle.std.proofs.Common.{◌≡◌, ◌+◌, sym, drop, length, subst, List, ℕ}
use Rattle.std.specs.Str.{IsAscii}
use Rattle.csv.specs.Reading.{default_config, records}
use Rattle.csv.specs.declared.parser.State.TheVariants as st
use Rattle.source_trait.specs.Asking.{RowList}
use Rattle.csv_sources.specs.DataFile.{AreText}
use Rattle.csv_sources.specs.Records.{records_left}
use Rattle.csv_sources.proofs.Ascii.{behind_text, records_text}
use Rattle.csv_sources.proofs.data_file.rows_behind.Goals as goal

-- the records behind the first of a text of ASCII are text
text_behind : (text : List ℕ) (left : RowList) → IsAscii text → left ≡ drop 1 (records default_config text) → AreText left
text_behind text left ascii is = subst AreText (sym is) (behind_text (records default_config text) (records_text default_config (length text + 1) st.StartRecord text ascii))

pub plain_rows-requires-clause-text : goal.plain_rows-requires-clause-text
plain_rows-requires-clause-text c =
    let ascii : IsAscii c.args.text.now = rw c.if-not-is_ascii.false at c.is_ascii.ensures.cases in
    text_behind c.args.text.now (records default_config c.in_ok-rows.rows.now) ascii c.in_ok-rows.ensures.rest

pub ascii_rows-requires-clause-text : goal.ascii_rows-requires-clause-text
ascii_rows-requires-clause-text c =
    let ascii : IsAscii c.args.text.now = rw c.if-not-is_ascii.false at c.is_ascii.ensures.cases in
    text_behind c.args.text.now (records_left c.args.reader.now) ascii c.requires.behind
