use Rattle.std.proofs.Common.{◌≡◌, ◌+◌, ◌∷◌, ◌∙◌, ap, arith, length, ◌++◌, true, None, rules, List, ℕ}
use Rattle.csv.specs.Records.{fields_of}
use Rattle.source_trait.specs.Asking.{RowList}
use Rattle.csv_sources.specs.DataFile.{fields_at, row_fault}
use Rattle.csv_sources.specs.Records.{records_left}
use Rattle.csv_sources.proofs.Gathered.{gathered_more, gathered_none}
use Rattle.csv_sources.proofs.data_file.text_rows.Goals as goal

pub loop-record-init : goal.loop-record-init
loop-record-init c = record {
  reading = c.requires.reading;
  count = omega arith;
  rows = gathered_none c.args.width c.args.places.now (fields_of c.args.values) (records_left c.args.reader.now) c.requires.none;
}

pub loop-record-preserved : goal.loop-record-preserved
loop-record-preserved c =
    let found : c.in_ok-next_record.field-0 ≡ true = search rules in
    let row = fields_of c.next_record.new.row in
    let left = records_left c.next_record.new.reader in
    let taken : records_left c.loop-record.reader ≡ row ∷ left = c.in_ok-next_record.ensures.taken found in
    let whole : row_fault c.args.width (c.loop-record.number + 1) row ≡ None = c.in-Ok.ensures.whole in
    let added : fields_of c.push_texts.new.values ≡ fields_of c.loop-record.values ++ fields_at c.args.places.now row =
    c.in_ok-push_texts.ensures ∙ ap (λ (l : List (List ℕ)). fields_of c.loop-record.values ++ fields_at c.args.places.now l) c.in-Ok.ensures.same in
    record {
      reading = c.in_ok-next_record.ensures.reading;
      count = omega (arith, c.loop-record.invariant.count, ap (λ (l : RowList). length l) taken);
      rows = gathered_more c.args.width c.args.places.now (c.loop-record.number + 1) (fields_of c.loop-record.values) (fields_of c.push_texts.new.values) (records_left c.args.reader.now)
          (records_left c.loop-record.reader) left row taken whole added c.loop-record.invariant.rows;
    }
