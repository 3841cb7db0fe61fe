use Rattle.std.proofs.Common.{◌≡◌, ◌<◌, ◌≤◌, ◌∷◌, Some, None, ◌∙◌, sym, ap, arith, drop, length, false, true, map, rules, List, ℕ}
use Rattle.std.specs.Prelude.{Ok, Err, Result, IfOk}
use Rattle.std.specs.declared.alloc.AllocError.{AllocError}
use Rattle.csv.specs.Reading.{default_config, records, strip_bom}
use Rattle.csv.specs.Records.{fields_of}
use Rattle.source_trait.specs.Asking.{RowList}
use Rattle.source_trait.specs.declared.source.AttachFault.{AttachFault}
use Rattle.csv_sources.specs.DataFile.{after_marks, offer_of, header_fault, place_in, rows_at}
use Rattle.csv_sources.specs.Records.{records_left}
use Rattle.csv_sources.proofs.Rows.{few_records, marks_shorten, no_mark_left, offer_bad, offer_none, offer_rows}
use Rattle.csv_sources.proofs.data_file.read_offer.Goals as goal

-- the records of a text behind its marks
all_of : (left : List (List (List ℕ))) (behind bytes : List ℕ) → left ≡ records default_config (strip_bom behind) → behind ≡ after_marks bytes → left ≡ records default_config (after_marks bytes)
all_of left behind bytes e is = e ∙ ap (λ (l : List ℕ). records default_config (strip_bom l)) is ∙ ap (records default_config) (no_mark_left bytes)

-- a file of at most the most bytes has few records
few_of : (all : List (List (List ℕ))) (bytes : List ℕ) → all ≡ records default_config (after_marks bytes) → length bytes ≤ 8388608 → length all < 4294967296
few_of all bytes e short = omega (arith, few_records (after_marks bytes), marks_shorten bytes, ap (λ (l : List (List (List ℕ))). length l) e)

pub returns-then-not-branch-clause-offer : goal.returns-then-not-branch-clause-offer
returns-then-not-branch-clause-offer c =
    let all : records_left c.open-reader.result ≡ records default_config (after_marks c.args.bytes.now) = all_of (records_left c.open-reader.result) c.behind_marks-text.result.now c.args.bytes.now c.open-reader.ensures.records c.behind_marks-text.ensures in
    let none : c.in_ok-next_record.field-0 ≡ false = search rules in
    offer_none c.args.columns.now (records default_config (after_marks c.args.bytes.now)) (sym all ∙ c.in_ok-next_record.ensures.end none)

pub returns-in-Some-clause-offer : goal.returns-in-Some-clause-offer
returns-in-Some-clause-offer c =
    let all : records_left c.open-reader.result ≡ records default_config (after_marks c.args.bytes.now) = all_of (records_left c.open-reader.result) c.behind_marks-text.result.now c.args.bytes.now c.open-reader.ensures.records c.behind_marks-text.ensures in
    let found : c.in_ok-next_record.field-0 ≡ true = search rules in
    let first : records default_config (after_marks c.args.bytes.now) ≡ fields_of c.next_record.new.row ∷ records_left c.next_record.new.reader = sym all ∙ c.in_ok-next_record.ensures.taken found in
    let bad : Some c.in-Some.fault ≡ header_fault (fields_of c.next_record.new.row) c.args.columns.now = search rules in
    offer_bad c.args.columns.now (fields_of c.next_record.new.row) (records_left c.next_record.new.reader) (records default_config (after_marks c.args.bytes.now)) c.in-Some.fault first bad

pub rows_behind-requires-clause-behind : goal.rows_behind-requires-clause-behind
rows_behind-requires-clause-behind c =
    let all : records_left c.open-reader.result ≡ records default_config (after_marks c.args.bytes.now) = all_of (records_left c.open-reader.result) c.behind_marks-text.result.now c.args.bytes.now c.open-reader.ensures.records c.behind_marks-text.ensures in
    let found : c.in_ok-next_record.field-0 ≡ true = search rules in
    let first : records default_config (after_marks c.args.bytes.now) ≡ fields_of c.next_record.new.row ∷ records_left c.next_record.new.reader = sym all ∙ c.in_ok-next_record.ensures.taken found in
    sym (ap (λ (l : List ℕ). drop 1 (records default_config l)) c.behind_marks-text.ensures ∙ ap (λ (l : RowList). drop 1 l) first)

pub rows_behind-requires-clause-few : goal.rows_behind-requires-clause-few
rows_behind-requires-clause-few c =
    let all : records_left c.open-reader.result ≡ records default_config (after_marks c.args.bytes.now) = all_of (records_left c.open-reader.result) c.behind_marks-text.result.now c.args.bytes.now c.open-reader.ensures.records c.behind_marks-text.ensures in
    let found : c.in_ok-next_record.field-0 ≡ true = search rules in
    let taken : records_left c.open-reader.result ≡ fields_of c.next_record.new.row ∷ records_left c.next_record.new.reader = c.in_ok-next_record.ensures.taken found in
    omega (arith, few_of (records_left c.open-reader.result) c.args.bytes.now all c.requires.small, ap (λ (l : List (List (List ℕ))). length l) taken)

-- what the rows under a good header offer
under : (columns header : List (List ℕ)) (rows all : RowList) (places : List ℕ) (width : ℕ) (result : Result (Result RowList AttachFault) AllocError) → all ≡ header ∷ rows → None ≡ header_fault header columns
    → places ≡ map (place_in header) columns → width ≡ length header
    → IfOk result (λ offer. offer ≡ rows_at width places rows) → IfOk result (λ offer. offer ≡ offer_of columns all)
under columns header rows all places width (Ok offer) first good at wide is =
    offer_rows columns header rows all places offer first good at (is ∙ ap (λ n. rows_at n places rows) wide)
under columns header rows all places width (Err e) first good at wide is = tt

pub returns-clause-offer : goal.returns-clause-offer
returns-clause-offer c =
    let all : records_left c.open-reader.result ≡ records default_config (after_marks c.args.bytes.now) = all_of (records_left c.open-reader.result) c.behind_marks-text.result.now c.args.bytes.now c.open-reader.ensures.records c.behind_marks-text.ensures in
    let found : c.in_ok-next_record.field-0 ≡ true = search rules in
    let header = fields_of c.next_record.new.row in
    let rows = records_left c.next_record.new.reader in
    let first : records default_config (after_marks c.args.bytes.now) ≡ header ∷ rows = sym all ∙ c.in_ok-next_record.ensures.taken found in
    let good : None ≡ header_fault header c.args.columns.now = search rules in
    let at : c.in_ok-places-in-None.places.items ≡ map (place_in header) c.args.columns.now = search rules in
    let places : c.as_slice-in-None-2.result.now ≡ map (place_in header) c.args.columns.now = c.as_slice-in-None-2.ensures.value ∙ at in
    let width : c.len.result ≡ length header = search rules in
    under c.args.columns.now header rows (records default_config (after_marks c.args.bytes.now)) c.as_slice-in-None-2.result.now c.len.result c.rows_behind.result first good places width c.rows_behind.ensures.offer
